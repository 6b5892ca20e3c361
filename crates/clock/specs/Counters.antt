-- The counters of RULES "Ticks" that are a count and nothing else: each a counter of its own size. Assumes nothing.
use Rattle.clock.specs.declared.Counter.{Counter}
use Rattle.clock.specs.Sizes.{prescaler_size, toner_size, divider_size, base_size}

-- p, the prescaler.
abbrev pub Prescaler : Type 0
Prescaler = Counter prescaler_size

-- q, the toner.
abbrev pub Toner : Type 0
Toner = Counter toner_size

-- d, the divider.
abbrev pub Divider : Type 0
Divider = Counter divider_size

-- b, the time base.
abbrev pub BaseCounter : Type 0
BaseCounter = Counter base_size
