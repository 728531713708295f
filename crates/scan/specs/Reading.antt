-- How a scan file is read, and the first fault from the front. Assumes nothing.
use Rattle.std.specs.Prelude.{ℕ, ◌+◌, ◌-◌, ◌*◌, Bool, cond, ◌&&◌, ◌||◌, List, [], ◌∷◌, length, take, drop, Some, None, fold, Option, Result, ◌==◌, nat_le, nat_lt, slice_index}
use Rattle.std.specs.List.{prefix_len}
use Rattle.refusal.specs.Answers.{Answer, accepted, answer_of, and_then, ensuring}
use Rattle.refusal.specs.declared.Layer.TheVariants.{Reader}
use Rattle.refusal.specs.declared.Report.{Report}
use Rattle.scan.specs.declared.fault.ScanFault.{ScanFault}
use Rattle.scan.specs.declared.gap.GapState.{GapState}
use Rattle.scan.specs.declared.gap.GapState.TheVariants.{Start, White, Comment}
use Rattle.scan.specs.declared.numeral.Numeral.{Numeral}
use Rattle.scan.specs.declared.reader.Scan.{Scan}

-- what a scan file stands for: its sides, and its levels row after row
pub record Image : Type 0 where
  pub width : ℕ
  pub height : ℕ
  pub levels : List ℕ

abbrev pub image_of : Scan → Image
image_of s = record { width = s.width; height = s.height; levels = s.levels.now }

abbrev pub white : ℕ → Bool
white b = (nat_le 9 b && nat_le b 13) || b == 32

abbrev pub digit : ℕ → Bool
digit b = nat_le 48 b && nat_le b 57

-- the number that digits write in base ten
abbrev pub value : List ℕ → ℕ
value ds = fold (λ v d. v * 10 + (d - 48)) 0 ds

-- A gap begins with a white byte. After a white byte, `#` (35) opens a comment, which goes on to the next byte 10, and that byte is white.
abbrev pub next_state : GapState → ℕ → Option GapState
next_state Start b = cond (white b) (Some White) None
next_state White b = cond (white b) (Some White) (cond (b == 35) (Some Comment) None)
next_state Comment b = cond (b == 10) (Some White) (Some Comment)

-- how many bytes of a gap come first
unfoldable pub gap_length : GapState → List ℕ → ℕ
gap_length s [] = 0
gap_length s (b ∷ bs) = elim (next_state s b) [ Some t ↦ 1 + gap_length t bs | None ↦ 0 ]

-- a result of the reader as an answer, by the values in it
abbrev pub read_answer : {R A : Type 0} → (R → A) → Result R ScanFault → Answer A
read_answer values = answer_of values (λ f. f.refusal) (λ f. f.place)

abbrev pub report_of : ScanFault → Report
report_of f = record { refusal = f.refusal; place = f.place; layer = Reader }

abbrev pub white_at : List ℕ → ℕ → Bool
white_at bytes at = nat_lt at (length bytes) && white (slice_index bytes at)

-- the digits that come first
unfoldable pub digits_of : List ℕ → List ℕ
digits_of bytes = take (prefix_len digit bytes) bytes

-- the number that digits write which stand at `first`, if there are any and a white byte follows
abbrev pub numeral_answer : List ℕ → ℕ → List ℕ → Answer Numeral
numeral_answer bytes first digits =
    let after = first + length digits in
    ensuring (nat_lt 0 (length digits) && white_at bytes after) 2 after (accepted (record { value = value digits; first = first; after = after }))

-- the number after the gap at `at`
abbrev pub number_answer : List ℕ → ℕ → Answer Numeral
number_answer bytes at =
    let first = at + gap_length Start (drop at bytes) in
    ensuring (white_at bytes at) 2 at (numeral_answer bytes first (digits_of (take 5 (drop first bytes))))

-- a width or a height, from 1 to 4,096
abbrev pub side_answer : List ℕ → ℕ → Answer Numeral
side_answer bytes at = and_then (number_answer bytes at) (λ n. ensuring (nat_lt 0 n.value && nat_le n.value 4096) 3 n.first (accepted n))

-- the largest level, 255
abbrev pub maxval_answer : List ℕ → ℕ → Answer Numeral
maxval_answer bytes at = and_then (number_answer bytes at) (λ n. ensuring (n.value == 255) 4 n.first (accepted n))

-- as many levels as the sides ask for
abbrev pub levels_answer : List ℕ → (width height from : ℕ) → Answer Image
levels_answer bytes width height from =
    ensuring (nat_le (width * height) (length bytes - from)) 5 (length bytes) (accepted (record { width = width; height = height; levels = take (width * height) (drop from bytes) }))

-- the three numbers from `at` on, a white byte, and the levels
unfoldable pub header_answer : List ℕ → ℕ → Answer Image
header_answer bytes at =
    and_then (side_answer bytes at)
    (λ width. and_then (side_answer bytes width.after)
    (λ height. and_then (maxval_answer bytes height.after) (λ maxval. levels_answer bytes width.value height.value (maxval.after + 1))))

-- the first two bytes are `P5`
abbrev pub magic : List ℕ → Bool
magic bytes = nat_lt 1 (length bytes) && slice_index bytes 0 == 80 && slice_index bytes 1 == 53

abbrev pub scan_answer : List ℕ → Answer Image
scan_answer bytes = ensuring (magic bytes) 1 0 (header_answer bytes 2)
