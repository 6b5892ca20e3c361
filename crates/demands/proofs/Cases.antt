-- The cases of RULES "Cases on both sides", computed from the definitions. Assumes nothing.
use Rattle.std.specs.Prelude.{Some, None}
use mathlib.Core.Path.{◌≡◌, ◌∙◌, refl, sym, ap, subst}
use mathlib.Core.Bool.{Bool, true, false}
use Prim.Native.Nat.{ℕ}
use Rattle.ground.specs.declared.Part.{Part}
use Rattle.ground.specs.declared.Part.TheVariants.{Ht, Gn}
use Rattle.commands.specs.declared.Bias.TheVariants.{Third}
use Rattle.commands.specs.declared.Commons.{Commons}
use Rattle.commands.specs.declared.Commons.TheVariants.{Two, Three, Four}
use Rattle.commands.specs.declared.Command.TheVariants.{BiasCom}
use Rattle.commands.specs.Commands.{byte_meaning}
use Rattle.clock.specs.declared.Source.{Source}
use Rattle.clock.specs.declared.Source.TheVariants.{Rc}
use Rattle.clock.specs.declared.Scan.{Scan}
use Rattle.settings.specs.declared.IrqSource.{IrqSource}
use Rattle.settings.specs.declared.Settings.{Settings}
use Rattle.rules.specs.Effects.{effect}
use Rattle.ticks.specs.Ticks.{running, ticked, advanced}
use Rattle.clock.specs.Ticks.{due, timer_stepped, base_ticked, counters_ticked, scan_stepped, scan_ticked, scan_start}
use Rattle.pins.specs.Pins.{irq_low}
use Rattle.frames.specs.Frames.{frame, closed}
use Rattle.chip.specs.Chip.{stepped_to, stepped, settings_after, obeyed_as}
use Rattle.port.specs.Port.{moved, framed_by, memory_after}
use Rattle.streams.specs.Streams.{command_stream}
use Rattle.driver.proofs.CasesLaws.{write_one, write_thirty_two, read_one, read_thirty_two, write_at_31, write_past_31, read_at_31, read_past_31}
use Rattle.demands.specs.Cases.{Cleared, Cases}

-- ---- where (h), (i) and (j) begin: what their conditions name are numbers there, and the ticks can be computed

-- settings with these in the places that the conditions name
abbrev with_conditions : (on : Bool) (clock : Source) (output : Bool) (source : IrqSource) (base : Bool) (rate p d b w : ℕ) (flag : Bool)
    → Settings → Settings
with_conditions on clock output source base rate p d b w flag s =
    record {
      system = record { on = on; source = clock };
      lcd = s.lcd;
      tone = s.tone;
      irq = record { on = output; source = source };
      base = record { on = base; rate = rate };
      counters =
          record {
            prescaler = record { count = p };
            toner = s.counters.toner;
            timer = record { divider = record { count = d }; base = record { count = b }; watchdog = record { count = w; flag = flag } };
          };
      test = s.test;
      scan = s.scan;
      part = s.part;
    }

begins : {clock : Source} {source : IrqSource} {output : Bool} {p : ℕ} (s : Settings) → Cleared clock s → s.irq.source ≡ source → s.irq.on ≡ output
    → s.counters.prescaler.count ≡ p → s ≡ with_conditions true clock output source true 7 p 0 0 0 false s
begins s c from switched prescaled =
    λ i.
    with_conditions (c.system_on i) (c.clocked i) (switched i) (from i) (c.time_base_on i) (c.rate_seven i) (prescaled i)
    (c.d_zero i) (c.b_zero i) (c.w_zero i) (c.flag_off i) s

-- what n ticks bring and m do not from there, they bring and do not bring from here
brought : {here there : Settings} → here ≡ there → (sign : Settings → Bool) (n m : ℕ)
    → (sign (advanced n there) ≡ true) × (sign (advanced m there) ≡ false)
    → (sign (advanced n here) ≡ true) × (sign (advanced m here) ≡ false)
brought e sign n m from = (ap (λ (s : Settings). sign (advanced n s)) e ∙ from.0, ap (λ (s : Settings). sign (advanced m s)) e ∙ from.1)

abbrev flag_set : Settings → Bool
flag_set s = s.counters.timer.watchdog.flag

-- ---- where (l) begins

abbrev with_scan : (on : Bool) (clock : Source) (p : ℕ) (scan : Scan) (part : Part) (commons : Commons) → Settings → Settings
with_scan on clock p scan part commons s =
    record {
      system = record { on = on; source = clock };
      lcd = record { on = s.lcd.on; bias = s.lcd.bias; commons = commons };
      tone = s.tone;
      irq = s.irq;
      base = s.base;
      counters = record { prescaler = record { count = p }; toner = s.counters.toner; timer = s.counters.timer };
      test = s.test;
      scan = scan;
      part = part;
    }

-- after n ticks from there the second common is scanned, and after m the first
abbrev Scans : ℕ → ℕ → Settings → Type 0
Scans n m s = ((advanced n s).scan.common ≡ 1) × ((advanced m s).scan.common ≡ 0)

of_ht : (commons : Commons) (s : Settings) → Scans 1024 1023 (with_scan true Rc 0 scan_start Ht commons s)
unfolding running ticked advanced scan_ticked scan_stepped counters_ticked base_ticked
of_ht Two s = (refl, refl)
of_ht Three s = (refl, refl)
of_ht Four s = (refl, refl)

of_gn : (commons : Commons) (s : Settings) → Scans 768 767 (with_scan true Rc 0 scan_start Gn commons s)
unfolding running ticked advanced scan_ticked scan_stepped counters_ticked base_ticked
of_gn Two s = (refl, refl)
of_gn Three s = (refl, refl)
of_gn Four s = (refl, refl)

module _ (s : Settings) (on : s.system.on ≡ true) (source : s.system.source ≡ Rc) (p : s.counters.prescaler.count ≡ 0)
    (scan : s.scan ≡ scan_start) where
  starts : (part : Part) → s.part ≡ part → s ≡ with_scan true Rc 0 scan_start part s.lcd.commons s
  starts part e = λ i. with_scan (on i) (source i) (p i) (scan i) (e i) s.lcd.commons s

  scans : (s.part ≡ Ht → Scans 1024 1023 s) × (s.part ≡ Gn → Scans 768 767 s)
  scans = (
    λ e. subst (Scans 1024 1023) (sym (starts Ht e)) (of_ht s.lcd.commons s),
    λ e. subst (Scans 768 767) (sym (starts Gn e)) (of_gn s.lcd.commons s),
  )

meanings : (part : Part) → (byte_meaning part 0x2B ≡ Some (BiasCom Third Four)) × (byte_meaning part 0x2C ≡ None)
unfolding byte_meaning
meanings Ht = (refl, refl)
meanings Gn = (refl, refl)

pub cases : Cases
unfolding byte_meaning effect running ticked advanced due timer_stepped base_ticked counters_ticked irq_low frame closed stepped stepped_to moved framed_by memory_after settings_after obeyed_as command_stream
cases =
    record {
      a = λ part memory. (refl, refl);
      b = λ chip. (refl, refl);
      c = λ first nibbles. (write_one first nibbles, write_thirty_two first nibbles, read_one first, read_thirty_two first);
      d = λ n m room. (write_at_31 n room, write_past_31 n m room, read_at_31 room, read_past_31 room);
      e = λ code. refl;
      f = meanings;
      g = λ s. ((refl, refl), (refl, refl));
      g_of_gn = λ s. ((refl, refl), refl, (refl, refl));
      h = λ s c. brought (begins s c refl refl refl) flag_set 1024 1023 (refl, refl);
      i = λ s c source on. brought (begins s c source on refl) irq_low 128 127 (refl, refl);
      j = λ s c source on p. brought (begins s c source on p) irq_low 1024 1023 (refl, refl);
      k = refl;
      l = λ s on source p scan. scans s on source p scan;
    }
