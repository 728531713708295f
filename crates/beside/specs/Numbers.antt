-- The numbers that look random. Assumes nothing.
use Rattle.std.specs.Prelude.{ℕ, ◌*◌, ◌/◌, ◌%◌, ◌^◌, bit_xor, cond, ◌==◌}
use Rattle.beside.specs.declared.random.Random.{Random}
use Rattle.beside.specs.declared.random.Levels.{Levels}
use Rattle.beside.specs.declared.random.Levels.TheVariants.{Any, HalfBlank}

-- three shifts, of which each is joined with what was shifted
abbrev pub next_state : ℕ → ℕ
next_state x =
    let a = bit_xor x (x * 2 ^ 13 % 2 ^ 64) in
    let b = bit_xor a (a / 2 ^ 7) in
    bit_xor b (b * 2 ^ 17 % 2 ^ 64)

abbrev pub stepped : Random → Random
stepped r = record { state = next_state r.state; levels = r.levels }

-- the number below `end` that is drawn next, or 0 where that is 0
abbrev pub number_below : Random → ℕ → ℕ
number_below r end = cond (end == 0) 0 (next_state r.state / 2 ^ 11 % end)

-- a level; where half are to be blank, one number more tells whether it is
abbrev pub level_by : Levels → Random → ℕ
level_by Any r = number_below r 256
level_by HalfBlank r = cond (number_below r 2 == 0) 0 (number_below (stepped r) 256)

abbrev pub stepped_by : Levels → Random → Random
stepped_by Any r = stepped r
stepped_by HalfBlank r = cond (number_below r 2 == 0) (stepped r) (stepped (stepped r))
