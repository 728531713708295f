-- What tests and counts over the pixels of a sheet say. Assumes nothing.
use Rattle.std.proofs.Common.{◌≡◌, ℕ, zero, suc, ◌<◌, ◌≤◌, Bool, true, false, Decides, sym, refl, ap, ◌∙◌, inl, inr, arith}
use Rattle.std.proofs.lemmas.Bool.{cases_lt, true≢false}
use Rattle.std.proofs.lemmas.Bool.Decides.{Decides-below_and, Decides-below_or}
use Rattle.entry.specs.Sums.{plain_sum}
use Rattle.entry.proofs.ModularSums.{sum_part}
use Rattle.sheet.specs.Cut.{count_pixels}
use Rattle.filters.specs.Filters.{each, any, everywhere, somewhere, ink_byte, is_ink}

itself : (b : Bool) → Decides b (b ≡ true)
itself b = (λ e. e, λ e. e)

abbrev pub Everywhere : (w h : ℕ) → (ℕ → ℕ → Bool) → Type 0
Everywhere w h t = (j : ℕ) → j < h → (i : ℕ) → i < w → t i j ≡ true

abbrev pub Somewhere : (w h : ℕ) → (ℕ → ℕ → Bool) → Type 0
Somewhere w h t = (j : ℕ) × (j < h) × ((i : ℕ) × (i < w) × (t i j ≡ true))

pub everywhere_decides : (w h : ℕ) (t : ℕ → ℕ → Bool) → Decides (everywhere w h t) (Everywhere w h t)
everywhere_decides w h t =
    Decides-below_and (λ j. each (λ i. t i j) w) (λ j. (i : ℕ) → i < w → t i j ≡ true) (each (λ j. each (λ i. t i j) w))
    (λ j. Decides-below_and (λ i. t i j) (λ i. t i j ≡ true) (each (λ i. t i j)) (λ i. itself (t i j)) refl (λ _. refl) w)
    refl
    (λ _. refl)
    h

pub somewhere_decides : (w h : ℕ) (t : ℕ → ℕ → Bool) → Decides (somewhere w h t) (Somewhere w h t)
somewhere_decides w h t =
    Decides-below_or (λ j. any (λ i. t i j) w) (λ j. (i : ℕ) × (i < w) × (t i j ≡ true)) (any (λ j. any (λ i. t i j) w))
    (λ j. Decides-below_or (λ i. t i j) (λ i. t i j ≡ true) (any (λ i. t i j)) (λ i. itself (t i j)) refl (λ _. refl) w)
    refl
    (λ _. refl)
    h

-- sums grow with their parts
sum_le : (f g : ℕ → ℕ) (n : ℕ) → ((i : ℕ) → i < n → f i ≤ g i) → plain_sum f n ≤ plain_sum g n
sum_le f g zero le = omega arith
sum_le f g (suc n) le = omega (arith, sum_le f g n (λ i h. le i (omega arith)), le n (omega arith))

-- a sum that reaches its bound reaches it at each part
sum_tight : (f g : ℕ → ℕ) (n : ℕ) → ((i : ℕ) → i < n → f i ≤ g i) → plain_sum f n ≡ plain_sum g n → (i : ℕ) → i < n → f i ≡ g i
sum_tight f g zero le e i lt = absurd (omega arith)
sum_tight f g (suc n) le e i lt =
    let before : plain_sum f n ≤ plain_sum g n = sum_le f g n (λ i h. le i (omega arith)) in
    let last : f n ≤ g n = le n (omega arith) in
    elim (cases_lt i n) [
      | inl below ↦ sum_tight f g n (λ i h. le i (omega arith)) (omega arith) i below
      | inr above ↦ let same : i ≡ n = omega arith in let there : f n ≡ g n = omega arith in ap f same ∙ there ∙ sym (ap g same)
    ]

-- a sum above 0 has a part above 0
sum_some : (f : ℕ → ℕ) (n : ℕ) → 0 < plain_sum f n → (i : ℕ) × (i < n) × (0 < f i)
sum_some f zero p = absurd (omega arith)
sum_some f (suc n) p = elim (cases_lt 0 (f n)) [
  | inl here ↦ (n, omega arith, here)
  | inr none ↦ let r = sum_some f n (omega arith) in (r.0, omega (arith, r.1), r.2)
]

byte_le : (b c : Bool) → (b ≡ true → c ≡ true) → ink_byte b ≤ ink_byte c
byte_le true c h = let e : ink_byte c ≡ 1 = ap ink_byte (h refl) in omega arith
byte_le false c h = omega arith

byte_some : (b : Bool) → 0 < ink_byte b → b ≡ true
byte_some true p = refl
byte_some false p = absurd (omega arith)

some_byte : (b : Bool) → b ≡ true → 0 < ink_byte b
some_byte true e = omega arith
some_byte false e = absurd (true≢false (sym e))

-- more pixels pass a weaker test
pub count_le : (w h : ℕ) (s t : ℕ → ℕ → Bool) → ((i j : ℕ) → i < w → j < h → s i j ≡ true → t i j ≡ true) → count_pixels w h s ≤ count_pixels w h t
count_le w h s t weaker = sum_le _ _ h (λ j hj. sum_le _ _ w (λ i hi. byte_le (s i j) (t i j) (weaker i j hi hj)))

-- where as many pass the stronger test, each that passes the weaker one passes it
pub count_tight : (w h : ℕ) (s t : ℕ → ℕ → Bool) → ((i j : ℕ) → i < w → j < h → s i j ≡ true → t i j ≡ true) → count_pixels w h s ≡ count_pixels w h t → (i j : ℕ) → i < w → j < h → t i j ≡ true → s i j ≡ true
count_tight w h s t weaker same i j hi hj is =
    let row : plain_sum (λ i. ink_byte (s i j)) w ≡ plain_sum (λ i. ink_byte (t i j)) w =
    sum_tight (λ j. plain_sum (λ i. ink_byte (s i j)) w) (λ j. plain_sum (λ i. ink_byte (t i j)) w) h (λ j hj. sum_le _ _ w (λ i hi. byte_le (s i j) (t i j) (weaker i j hi hj))) same j hj in
    let here : ink_byte (s i j) ≡ ink_byte (t i j) = sum_tight (λ i. ink_byte (s i j)) (λ i. ink_byte (t i j)) w (λ i hi. byte_le (s i j) (t i j) (weaker i j hi hj)) row i hi in
    byte_some (s i j) (omega (arith, here, some_byte (t i j) is))

pub count_some : (w h : ℕ) (t : ℕ → ℕ → Bool) → 0 < count_pixels w h t → Somewhere w h t
count_some w h t p =
    let a = sum_some (λ j. plain_sum (λ i. ink_byte (t i j)) w) h p in
    let b = sum_some (λ i. ink_byte (t i a.0)) w a.2 in
    (a.0, a.1, (b.0, b.1, byte_some (t b.0 a.0) b.2))

pub some_count : (w h : ℕ) (t : ℕ → ℕ → Bool) → Somewhere w h t → 0 < count_pixels w h t
some_count w h t s =
    let row = sum_part (λ i. ink_byte (t i s.0)) w s.2.0 s.2.1 in
    let all = sum_part (λ j. plain_sum (λ i. ink_byte (t i j)) w) h s.0 s.1 in
    omega (arith, row, all, some_byte (t s.2.0 s.0) s.2.2)

-- what a filter writes is ink where its test passes
pub byte_is_ink : (b : Bool) → is_ink (ink_byte b) ≡ b
byte_is_ink true = refl
byte_is_ink false = refl
