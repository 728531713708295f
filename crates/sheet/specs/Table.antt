-- Tables of partial sums, over any kind of entry. Columns count from the left, rows from the top. Assumes nothing.
use Rattle.std.specs.Prelude.{◌≡◌, ℕ, zero, suc, ◌+◌, ◌-◌, ◌*◌, ◌<◌, ◌≤◌, ◌≢◌, ◌⊎◌, List, length, slice_index_or}
use Rattle.entry.specs.Sums.{prefix}
use Rattle.entry.specs.declared.kind.entry.Entry.{Ghosts}
use Rattle.sheet.specs.declared.rows.Sign.{Sign}
use Rattle.sheet.specs.declared.rows.Sign.TheVariants.{Plus, Minus}

module _ {E : Type 0} (k : Ghosts E) where
  -- the joining of the entries in columns below x and rows below y
  abbrev pub corner_sum : (ℕ → ℕ → E) → ℕ → ℕ → E
  corner_sum e x y = prefix k (λ j. prefix k (λ i. e i j) x) y

  -- x joined with the inverse of y
  abbrev pub less : E → E → E
  less x y = k.joined x (k.inverted y)

  -- an entry, or its inverse
  abbrev pub signed : Sign → E → E
  signed Plus x = x
  signed Minus x = k.inverted x

  -- start, f 0, f 1, .. f (n - 1) joined
  abbrev pub prefix_from : E → (ℕ → E) → ℕ → E
  prefix_from start f zero = start
  prefix_from start f (suc n) = k.joined (prefix_from start f n) (f n)

  -- entry i of a list
  abbrev pub entry_at : List E → ℕ → E
  entry_at entries i = slice_index_or entries i k.neutral

  -- the entry at column x of row y, where a row has `stride` entries
  abbrev pub cell : ℕ → List E → ℕ → ℕ → E
  cell stride table x y = entry_at table (y * stride + x)

  -- `after` is `before` with f i at each column i of row y from `left` on and below `right`
  pub record Filled (stride : ℕ) (before : List E) (y left right : ℕ) (f : ℕ → E) (after : List E) : Type 0 where
    pub long : length after ≡ length before
    pub here : (i : ℕ) → i < stride → left ≤ i → i < right → cell stride after i y ≡ f i
    pub others : (i j : ℕ) → i < stride → (i < left) ⊎ ((right ≤ i) ⊎ (j ≢ y)) → cell stride after i j ≡ cell stride before i j

  -- Row `base`, or its inverse, is joined to each row from `top` on and below `bottom`, from column `left` on.
  pub record Added (stride : ℕ) (before : List E) (left top bottom base : ℕ) (sign : Sign) (after : List E) : Type 0 where
    pub long : length after ≡ length before
    pub rows : (i j : ℕ) → i < stride → left ≤ i → top ≤ j → j < bottom → cell stride after i j ≡ k.joined (cell stride before i j) (signed sign (cell stride before i base))
    pub others : (i j : ℕ) → i < stride → (i < left) ⊎ ((j < top) ⊎ (bottom ≤ j)) → cell stride after i j ≡ cell stride before i j

  -- The page rows from `top` on and below `bottom` have f x j for column x, from column `left` on and below `right`.
  pub record Rewritten (stride : ℕ) (before : List E) (left right top bottom : ℕ) (f : ℕ → ℕ → E) (after : List E) : Type 0 where
    pub long : length after ≡ length before
    -- in those columns, the row above joined with the sum of the new page row
    pub inside : (i j : ℕ) → i < stride → left < i → i ≤ right → top ≤ j → j < bottom →
        cell stride after i (j + 1) ≡ k.joined (cell stride after i j) (prefix_from (less (cell stride before left (j + 1)) (cell stride before left j)) (λ n. f (left + n) j) (i - left))
    -- right of them, shifted as the last of them is
    pub beyond : (i j : ℕ) → i < stride → right < i → top ≤ j → j < bottom →
        cell stride after i (j + 1) ≡ k.joined (cell stride before i (j + 1)) (less (cell stride after right (j + 1)) (cell stride before right (j + 1)))
    pub others : (i j : ℕ) → i < stride → (i ≤ left) ⊎ ((j ≤ top) ⊎ (bottom < j)) → cell stride after i j ≡ cell stride before i j

  -- The table of the entries e, of a sheet of this width and height with `rows` rows laid: each table row up to `rows` has the joinings of what lies before and above, and the others have the identity.
  pub record TableOf (width height rows : ℕ) (e : ℕ → ℕ → E) (table : List E) : Type 0 where
    pub entry : (x y : ℕ) → x ≤ width → y ≤ rows → cell (width + 1) table x y ≡ corner_sum e x y
    pub rest : (x y : ℕ) → x ≤ width → rows < y → y ≤ height → cell (width + 1) table x y ≡ k.neutral
