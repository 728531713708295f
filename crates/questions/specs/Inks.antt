-- Ink pages of grey sheets: 1 for ink, 0 for paper. Assumes nothing.
use Rattle.std.specs.Prelude.{ℕ, ◌-◌, ◌*◌, cond, nat_le, nat_lt}
use Rattle.raster.specs.Drawn.{room_answer}
use Rattle.refusal.specs.Answers.{Answer, accepted, and_then, ensuring}

-- ink where the level is below t
abbrev pub fixed_ink : ℕ → (level total count : ℕ) → ℕ
fixed_ink t level total count = cond (nat_lt level t) 1 0

-- ink where the level lies at least p percent below the mean of the window: level × count × 100 is below total × (100 - p)
abbrev pub share_ink : ℕ → (level total count : ℕ) → ℕ
share_ink p level total count = cond (nat_lt (level * count * 100) (total * (100 - p))) 1 0

-- a page that is too short comes before a share above 100
abbrev pub share_answer : (p width height long : ℕ) → Answer ℕ
share_answer p width height long = and_then (room_answer width height long) (λ n. ensuring (nat_le p 100) 35 0 (accepted n))
