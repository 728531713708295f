-- A scan file as its writer makes it, part by part, and the law that joins it with the reading. Assumes nothing.
use Rattle.std.specs.Prelude.{◌≡◌, ℕ, ◌*◌, ◌<◌, ◌≤◌, true, false, List, [], ◌∷◌, ◌++◌, length, ◌==◌}
use Rattle.std.specs.List.{AllByRecursion}
use Rattle.refusal.specs.Answers.{accepted}
use Rattle.scan.specs.Reading.{Image, white, digit, value, scan_answer}

-- White bytes; after any of them there may be a comment, from `#` (35) up to a byte 10, which is the next white byte.
pub data Gap : List ℕ → Type 0 where
  last : (b : ℕ) → white b ≡ true → Gap (b ∷ [])
  more : (b : ℕ) (gap : List ℕ) → white b ≡ true → Gap gap → Gap (b ∷ gap)
  comment : (b : ℕ) (text gap : List ℕ) → white b ≡ true → AllByRecursion (λ t. (t == 10) ≡ false) text → Gap (10 ∷ gap) → Gap (b ∷ (35 ∷ (text ++ (10 ∷ gap))))

-- 1 to 5 digits that write n
pub record Decimal (digits : List ℕ) (n : ℕ) : Type 0 where
  pub each : AllByRecursion (λ d. digit d ≡ true) digits
  pub some : 0 < length digits
  pub few : length digits ≤ 5
  pub worth : value digits ≡ n

-- a number with the gap before it
pub record Number (text : List ℕ) (n : ℕ) : Type 0 where
  pub gap : List ℕ
  pub digits : List ℕ
  pub is_text : text ≡ gap ++ digits
  pub is_gap : Gap gap
  pub is_decimal : Decimal digits n

pub record Side (n : ℕ) : Type 0 where
  pub low : 0 < n
  pub high : n ≤ 4096

-- a file of this image: `P5`, its width, its height, 255, one white byte, its levels, and any bytes after them
pub record Written (bytes : List ℕ) (image : Image) : Type 0 where
  pub width : List ℕ
  pub height : List ℕ
  pub maxval : List ℕ
  pub end : ℕ
  pub extra : List ℕ
  pub is_bytes : bytes ≡ 80 ∷ (53 ∷ (width ++ (height ++ (maxval ++ (end ∷ (image.levels ++ extra))))))
  pub is_width : Number width image.width
  pub is_height : Number height image.height
  pub is_maxval : Number maxval 255
  pub is_end : white end ≡ true
  pub wide : Side image.width
  pub high : Side image.height
  pub is_levels : length image.levels ≡ image.width * image.height

-- what is written is read back, and what is accepted was written so
pub record ReadsBack : Type 0 where
  pub read : (bytes : List ℕ) (image : Image) → Written bytes image → scan_answer bytes ≡ accepted image
  pub form : (bytes : List ℕ) (image : Image) → scan_answer bytes ≡ accepted image → Written bytes image
