-- The digits of a script's captures. Assumes nothing.
use Rattle.std.specs.Prelude.{ℕ, ◌+◌, ◌-◌, ◌%◌, cond, ltb}

-- RULES "The listing", its digits: `0` to `9`, and `a` on from 10, so that `g` is 16, the least sample that is refused.
-- What other bytes give does not matter: the captures have none.
unfoldable pub sample_of : ℕ → ℕ
sample_of byte = cond (ltb byte 97) (byte % 48) (byte - 97 + 10)
