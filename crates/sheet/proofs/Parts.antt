-- A part of a list that is written, and a part of a row of a table. Assumes nothing.
use Rattle.std.proofs.Common.{◌≡◌, ℕ, ◌+◌, ◌-◌, ◌*◌, ◌<◌, ◌≤◌, ◌≢◌, ◌⊎◌, List, ◌++◌, length, take, drop, get_or, sym, refl, ap, ◌∙◌, inl, inr, arith, length-append, length-drop}
use Rattle.std.proofs.lemmas.List.{get_or_append_left, get_or-append_right, get_or-take, get_or-drop, length-take-le}
use Rattle.std.proofs.lemmas.Bool.{cases_lt}
use Rattle.std.proofs.lemmas.Nat.{mul-add-lt, mul-le}
use Rattle.entry.specs.declared.kind.entry.Entry.{Ghosts}
use Rattle.sheet.specs.Table.{cell, entry_at, Filled}

-- `after` is `before` with `part` from place `at` on
pub record Spliced {A : Type 0} (before : List A) (at : ℕ) (part after : List A) : Type 0 where
  pub long : length after ≡ length before
  pub here : (i : ℕ) (d : A) → i < length part → get_or after (at + i) d ≡ get_or part i d
  pub others : (i : ℕ) (d : A) → (i < at) ⊎ (at + length part ≤ i) → get_or after i d ≡ get_or before i d

pub spliced : {A : Type 0} (t part : List A) (at n : ℕ) → length part ≡ n → at + n ≤ length t → Spliced t at part (take at t ++ (part ++ drop n (drop at t)))
spliced t part at n long room =
    let rest = drop n (drop at t) in
    let front : length (take at t) ≡ at = length-take-le at t (omega arith) in
    record {
      long = omega (arith, front, long, length-append (take at t) (part ++ rest), length-append part rest, length-drop n (drop at t), length-drop at t);
      here = λ i d lt. get_or-append_right (take at t) (part ++ rest) at (at + i) d front (omega arith) ∙ ap (λ m. get_or (part ++ rest) m d) (let e : at + i - at ≡ i = omega arith in e) ∙ get_or_append_left part rest d i lt;
      others = λ i d out. elim out [
        | inl lt ↦ get_or_append_left (take at t) (part ++ rest) d i (omega (arith, front)) ∙ get_or-take at t i d lt
        | inr ge ↦
            let e : at + (n + (i - at - n)) ≡ i = omega arith in
            get_or-append_right (take at t) (part ++ rest) at i d front (omega arith) ∙ get_or-append_right part rest n (i - at) d long (omega arith) ∙ get_or-drop n (drop at t) (i - at - n) d ∙ get_or-drop at t _ d ∙ ap (λ m. get_or t m d) e
      ];
    }

-- the same in the back of a list that is split
pub spliced_back : {A : Type 0} (upper lower part after : List A) (at : ℕ) → Spliced lower at part after → Spliced (upper ++ lower) (length upper + at) part (upper ++ after)
spliced_back upper lower part after at so =
    let n = length upper in
    record {
      long = omega (arith, length-append upper after, length-append upper lower, so.long);
      here = λ i d lt. get_or-append_right upper after n (n + at + i) d refl (omega arith) ∙ ap (λ m. get_or after m d) (let e : n + at + i - n ≡ at + i = omega arith in e) ∙ so.here i d lt;
      others = λ i d out. elim (cases_lt i n) [
        | inl lt ↦ get_or_append_left upper after d i lt ∙ sym (get_or_append_left upper lower d i lt)
        | inr ge ↦
            let far : (i - n < at) ⊎ (at + length part ≤ i - n) = elim out [ inl a ↦ inl (omega arith) | inr a ↦ inr (omega arith) ] in
            get_or-append_right upper after n i d refl ge ∙ so.others (i - n) d far ∙ sym (get_or-append_right upper lower n i d refl ge)
      ];
    }

-- what is off a part of a row lies before it or behind it
off_part : (s y left right i j : ℕ) → left ≤ right → right ≤ s → i < s → (i < left) ⊎ ((right ≤ i) ⊎ (j ≢ y)) → (j * s + i < y * s + left) ⊎ (y * s + right ≤ j * s + i)
off_part s y left right i j order within hi out = elim (cases_lt j y) [
  | inl lt ↦ inl (omega (arith, mul-add-lt j s i y lt hi))
  | inr ge ↦ elim (cases_lt y j) [
    | inl gt ↦ inr (omega (arith, mul-le (y + 1) s j s (omega arith) (omega arith)))
    | inr le ↦
        let same : j ≡ y = omega arith in
        let rows : j * s ≡ y * s = ap (λ m. m * s) same in
        elim out [ inl a ↦ inl (omega arith) | inr (inl a) ↦ inr (omega arith) | inr (inr ne) ↦ absurd (ne same) ]
  ]
]

pub filled_part : {E : Type 0} (k : Ghosts E) (s y left right : ℕ) (t part after : List E) (f : ℕ → E) → Spliced t (y * s + left) part after → length part ≡ right - left → left ≤ right → right ≤ s →
    ((i : ℕ) → i < right - left → entry_at k part i ≡ f (left + i)) → Filled k s t y left right f after
filled_part k s y left right t part after f so long order within is = record {
  long = so.long;
  here = λ i hi lo up.
      let at : y * s + left + (i - left) ≡ y * s + i = omega arith in
      let column : left + (i - left) ≡ i = omega arith in
      ap (entry_at k after) (sym at) ∙ so.here (i - left) k.neutral (omega arith) ∙ is (i - left) (omega arith) ∙ ap f column;
  others = λ i j hi out. so.others (j * s + i) k.neutral (elim (off_part s y left right i j order within hi out) [ inl a ↦ inl a | inr a ↦ inr (omega arith) ]);
}

pub joined_at : {E : Type 0} (k : Ghosts E) {a x x' y y' : E} → a ≡ k.joined x y → x ≡ x' → y ≡ y' → a ≡ k.joined x' y'
joined_at k {x' = x'} {y = y} e p q = e ∙ ap (λ v. k.joined v y) p ∙ ap (k.joined x') q

-- Table row y, which stands in front of the second part of the table once it is split there.
module _ {E : Type 0} (k : Ghosts E) (s y : ℕ) (t upper lower : List E) (whole : t ≡ upper ++ lower) (split : length upper ≡ y * s) where
  -- a part of the row
  pub part_long : (left right : ℕ) → s * (y + 1) ≤ length t → left ≤ right → right ≤ s → length (take (right - left) (drop left lower)) ≡ right - left
  part_long left right room order within =
      let size : length t ≡ length upper + length lower = ap length whole ∙ length-append upper lower in
      length-take-le (right - left) (drop left lower) (omega (arith, split, size, length-drop left lower))

  -- column i of the row
  pub in_row : (i : ℕ) → entry_at k lower i ≡ cell k s t i y
  in_row i =
      let at : y * s + i - y * s ≡ i = omega arith in
      sym (ap (λ l. entry_at k l (y * s + i)) whole ∙ get_or-append_right upper lower (y * s) (y * s + i) k.neutral split (omega arith) ∙ ap (entry_at k lower) at)

  pub in_part : (left n i : ℕ) → i < n → entry_at k (take n (drop left lower)) i ≡ cell k s t (left + i) y
  in_part left n i lt = get_or-take n (drop left lower) i k.neutral lt ∙ get_or-drop left lower i k.neutral ∙ in_row (left + i)

  -- a part of a row above it
  pub above_long : (j left : ℕ) → j < y → left ≤ s → length (take ((j + 1) * s - (j * s + left)) (drop (j * s + left) upper)) ≡ s - left
  above_long j left lt within =
      let n = (j + 1) * s - (j * s + left) in
      let some : n ≡ s - left = omega arith in
      length-take-le n (drop (j * s + left) upper) (omega (arith, split, length-drop (j * s + left) upper, mul-le (j + 1) s y s (omega arith) (omega arith))) ∙ some

  pub above_row : (j i : ℕ) → j < y → i < s → entry_at k upper (j * s + i) ≡ cell k s t i j
  above_row j i lt within = sym (ap (λ l. entry_at k l (j * s + i)) whole ∙ get_or_append_left upper lower k.neutral (j * s + i) (omega (arith, split, mul-add-lt j s i y lt within)))

  pub above_part : (j left i : ℕ) → j < y → i < s - left → entry_at k (take ((j + 1) * s - (j * s + left)) (drop (j * s + left) upper)) i ≡ cell k s t (left + i) j
  above_part j left i lt within =
      let at : j * s + left + i ≡ j * s + (left + i) = omega arith in
      get_or-take ((j + 1) * s - (j * s + left)) (drop (j * s + left) upper) i k.neutral (omega arith) ∙ get_or-drop (j * s + left) upper i k.neutral ∙ ap (entry_at k upper) at ∙ above_row j (left + i) lt (omega arith)

  -- the row with `part` in its columns from `left` on and below `right`
  pub row_part : (left right : ℕ) (part : List E) (f : ℕ → E) → s * (y + 1) ≤ length t → left ≤ right → right ≤ s → length part ≡ right - left → ((i : ℕ) → i < right - left → entry_at k part i ≡ f (left + i)) →
      Filled k s t y left right f (upper ++ (take left lower ++ (part ++ drop (right - left) (drop left lower))))
  row_part left right part f room order within long is =
      let n = right - left in
      let size : length t ≡ length upper + length lower = ap length whole ∙ length-append upper lower in
      let back = spliced lower part left n long (omega (arith, split, size)) in
      let at : length upper + left ≡ y * s + left = omega (arith, split) in
      let after = upper ++ (take left lower ++ (part ++ drop n (drop left lower))) in
      let so : Spliced t (y * s + left) part after = rw (whole, ← at) (spliced_back upper lower part _ left back) in
      filled_part k s y left right t part after f so long order within is
