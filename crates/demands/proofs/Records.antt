-- Demands 2 and 3 of records hold: what is proved of the chip that a valid record says is carried over to the bytes.
-- Assumes nothing.
use mathlib.Core.Path.{◌≡◌, ◌∙◌, sym, ap, subst}
use mathlib.Core.Bool.{true}
use mathlib.Core.List.{List, ◌++◌}
use Prim.Native.Nat.{ℕ}
use lib.ListN.{length, take, drop}
use lib.Seq.{paste}
use Rattle.ground.specs.Sizes.{addresses}
use Rattle.ground.specs.Written.{byte}
use Rattle.chip.specs.Valid.{Valid}
use Rattle.state.specs.Record.{record_of, record_valid, chip_of}
use Rattle.state.proofs.ChipLaws.{valid_chip, chip_again, chip_valid}
use Rattle.chip.specs.declared.Chip.{Chip}
use Rattle.ground.specs.Parts.{part_number}
use Rattle.demands.specs.Parts.{CallsKeepPart}
use Rattle.demands.proofs.PartLaws.{part_stays}
use Rattle.streams.specs.Streams.{write_stream, read_stream, command_stream}
use Rattle.state.proofs.BytesLaws.{memory_bytes}
use Rattle.demands.specs.Accepted.{AcceptsWrite, AcceptsRead, AcceptsCommands}
use Rattle.demands.specs.Events.{after, notes, ReadsAs}
use Rattle.demands.specs.Demand2.{due_commands, between, Writes, Reads, Commands}
use Rattle.demands.specs.Demand3.{completed, Survives}
use Rattle.demands.specs.Stopped.{nibble_answers}
use Rattle.demands.specs.Calls.{Call, after_calls, events_of, sent, passed, noted, CallsKeepValid}
use Rattle.demands.specs.Records.{nibbles_offered, no_frame, CallsWrite, CallsRead, CallsCommand, Demand2OfRecords, Demand3OfRecords}
use Rattle.demands.proofs.AcceptedLaws.{accepted_read, accepted_commands}
use Rattle.demands.proofs.CallsLaws.{calls_leave, calls_note}
use Rattle.demands.proofs.CommandLaws.{commands_answers}
use Rattle.demands.proofs.Demand2.{demand2, read_left, read_answered, command_left, command_answered}
use Rattle.demands.proofs.Demand3.{demand3}
use Rattle.demands.proofs.EventsLaws.{after_valid}
use Rattle.demands.proofs.Ports.{Sixteen}
use Rattle.demands.proofs.ReadLaws.{read_answers}
use Rattle.demands.proofs.RecordLaws.{nibbles_told, offers_told, commands_told, memory_said, settings_said, part_byte, leaves, notes_said, memory_left, settings_left, ticks_left, port_left, told}
use Rattle.demands.proofs.StoppedLaws.{write_whole}
use Rattle.demands.proofs.StreamLevels.{write_sixteen, read_sixteen, command_sixteen}

-- ---- any calls

pub calls_keep_valid : CallsKeepValid
calls_keep_valid b calls valid =
    ap record_valid (leaves b valid calls)
    ∙ chip_valid (after (chip_of b) (events_of calls)) (after_valid (chip_of b) (events_of calls) (valid_chip b valid))

pub calls_keep_part : CallsKeepPart
calls_keep_part b calls valid =
    sym (part_byte (after_calls b calls) (calls_keep_valid b calls valid))
    ∙ ap (λ (l : List ℕ). part_number (chip_of l).settings.part) (leaves b valid calls)
    ∙ ap (λ (c : Chip). part_number c.settings.part)
    (chip_again (after (chip_of b) (events_of calls)) (after_valid (chip_of b) (events_of calls) (valid_chip b valid)).port.size)
    ∙ ap part_number (part_stays (chip_of b) (events_of calls)) ∙ part_byte b valid

-- ---- demand 2

writes : (b : List ℕ) (first : ℕ) (ns : List ℕ) (calls : List Call) → record_valid b ≡ true → AcceptsWrite first ns
    → sent calls ≡ write_stream first ns → CallsWrite b first ns calls
writes b first ns calls valid accepts e =
    let done : Writes (chip_of b) first ns (events_of calls) = demand2.writes (chip_of b) first ns (events_of calls) (valid_chip b valid) accepts e in
    let law = write_whole (chip_of b) first ns (events_of calls) (valid_chip b valid) accepts e in
    record {
      port = port_left b valid calls _ law.0 ∙ ap (λ (m : List ℕ). paste m first ns (length ns) ++ no_frame) (memory_said b valid);
      settings = ticks_left b valid calls done.settings;
      returned =
          told b valid calls (subst Sixteen (sym e) (write_sixteen first ns)) 9 (nibble_answers first ns) _ (nibbles_told first ns) law.1;
    }

reads : (b : List ℕ) (first count : ℕ) (calls : List Call) → record_valid b ≡ true → AcceptsRead first count
    → sent calls ≡ read_stream first count → CallsRead b first count calls
reads b first count calls valid accepts e =
    let v = valid_chip b valid in
    let done : Reads (chip_of b) first count (events_of calls) = demand2.reads (chip_of b) first count (events_of calls) v accepts e in
    let ok = accepted_read first count accepts in
    let said = memory_said b valid in
    let part = take count (drop first (chip_of b).port.memory) in
    record {
      port =
          port_left b valid calls _ (read_left (chip_of b) first count (events_of calls) v ok e) ∙ ap (λ (m : List ℕ). m ++ no_frame) said;
      settings = ticks_left b valid calls done.settings;
      returned =
          told b valid calls (subst Sixteen (sym e) (read_sixteen first count)) 9 (read_answers first part) _
          (offers_told first part ∙ ap (λ (m : List ℕ). nibbles_offered first (take count (drop first m))) said)
          (read_answered (chip_of b) first count (events_of calls) v ok e);
      read_back =
          subst (λ noted. ReadsAs noted (take count (drop first (take addresses b)))) (sym (notes_said b valid calls))
          (subst (λ m. ReadsAs (notes (chip_of b) (events_of calls)) (take count (drop first m))) said done.noted);
    }

commands : (b codes : List ℕ) (calls : List Call) → record_valid b ≡ true → AcceptsCommands (byte b 58) codes
    → sent calls ≡ command_stream codes → CallsCommand b codes calls
commands b codes calls valid accepts e =
    let accepts' = subst (λ part. AcceptsCommands part codes) (sym (part_byte b valid)) accepts in
    let done : Commands (chip_of b) codes (events_of calls) = demand2.commands (chip_of b) codes (events_of calls) (valid_chip b valid) accepts' e in
    let defined = accepted_commands (chip_of b).settings.part codes accepts' in
    record {
      port =
          port_left b valid calls _ (command_left (chip_of b) codes (events_of calls) defined e)
          ∙ ap (λ (m : List ℕ). m ++ no_frame) (memory_said b valid);
      settings =
          settings_left b valid calls _
          (done.settings ∙ ap (between (due_commands 26 codes) 0 (events_of calls)) (settings_said b valid));
      returned =
          told b valid calls (subst Sixteen (sym e) (command_sixteen codes)) 3 (commands_answers codes) _ (commands_told codes)
          (command_answered (chip_of b) codes (events_of calls) defined e);
    }

pub demand2_of_records : Demand2OfRecords
demand2_of_records = record { writes = writes; reads = reads; commands = commands }

-- ---- demand 3

pub demand3_of_records : Demand3OfRecords
demand3_of_records b first ns k calls valid accepts e =
    let survives : Survives (chip_of b) first ns k (passed calls) (after (chip_of b) (events_of calls)) =
    demand3 (chip_of b) first ns k (events_of calls) (valid_chip b valid) accepts e in
    record {
      memory = memory_left b valid calls _ (survives.memory ∙ ap (λ (m : List ℕ). paste m first ns (completed (length ns) k)) said);
      settings = ticks_left b valid calls survives.settings;
      resent = λ again e₁.
          ap (take addresses) (twice again) ∙ memory_bytes _ (after_valid _ (events_of again) stopped_valid).port.size ∙ survives.resent (events_of again) e₁
          ∙ ap (λ (m : List ℕ). paste m first ns (length ns)) said;
      read_back = λ again back e₁ e₂.
          subst (λ noted. ReadsAs noted ns)
          (sym (ap (λ (l : List ℕ). noted l back) (twice again) ∙ calls_note _ back (after_valid _ (events_of again) stopped_valid)))
          (survives.read_back (events_of again) (events_of back) e₁ e₂);
    }
  where
    said : (chip_of b).port.memory ≡ take addresses b
    said = memory_said b valid

    stopped_valid : Valid (after (chip_of b) (events_of calls))
    stopped_valid = after_valid (chip_of b) (events_of calls) (valid_chip b valid)

    twice : (again : List Call) → after_calls (after_calls b calls) again ≡ record_of (after (after (chip_of b) (events_of calls)) (events_of again))
    twice again =
        ap (λ (l : List ℕ). after_calls l again) (leaves b valid calls) ∙ calls_leave (after (chip_of b) (events_of calls)) again stopped_valid
