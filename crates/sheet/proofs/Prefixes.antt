-- Joinings of many entries. Assumes nothing.
use Rattle.std.proofs.Common.{◌≡◌, ℕ, zero, suc, ◌+◌, ◌*◌, ◌/◌, ◌%◌, ◌<◌, sym, refl, ap, ◌∙◌, mul_comm, mul-zero, mul-suc, add-one, arith}
use Rattle.std.proofs.lemmas.Nat.{div-mul-add, mod-mul-add}
use Rattle.entry.specs.Group.{Group}
use Rattle.entry.specs.Sums.{prefix}
use Rattle.entry.specs.declared.kind.entry.Entry.{Ghosts}
use Rattle.sheet.specs.Sheet.{corners}
use Rattle.sheet.specs.Table.{corner_sum, less, prefix_from}

module _ {E : Type 0} (k : Ghosts E) where
  pub prefix_more : (f : ℕ → E) (n : ℕ) → k.joined (prefix k f n) (f n) ≡ prefix k f (n + 1)
  prefix_more f n = sym (ap (prefix k f) (add-one n))

  pub from_more : (start : E) (f : ℕ → E) (n : ℕ) → k.joined (prefix_from k start f n) (f n) ≡ prefix_from k start f (n + 1)
  from_more start f n = sym (ap (prefix_from k start f) (add-one n))

  pub from_same : (start : E) (f g : ℕ → E) (n : ℕ) → ((i : ℕ) → i < n → f i ≡ g i) → prefix_from k start f n ≡ prefix_from k start g n
  from_same start f g zero same = refl
  from_same start f g (suc n) same =
      let before = from_same start f g n (λ i h. same i (omega arith)) in
      let here = same n (omega arith) in
      cc

  pub prefix_same : (f g : ℕ → E) (n : ℕ) → ((i : ℕ) → i < n → f i ≡ g i) → prefix k f n ≡ prefix k g n
  prefix_same f g zero same = refl
  prefix_same f g (suc n) same =
      let before = prefix_same f g n (λ i h. same i (omega arith)) in
      let here = same n (omega arith) in
      cc

  pub corner_same : (e e' : ℕ → ℕ → E) (x y : ℕ) → ((i j : ℕ) → i < x → j < y → e i j ≡ e' i j) → corner_sum k e x y ≡ corner_sum k e' x y
  corner_same e e' x y same =
      prefix_same (λ j. prefix k (λ i. e i j) x) (λ j. prefix k (λ i. e' i j) x) y (λ j hj. prefix_same (λ i. e i j) (λ i. e' i j) x (λ i hi. same i j hi hj))

  pub corner_row : (e : ℕ → ℕ → E) (x y : ℕ) → corner_sum k e x (y + 1) ≡ k.joined (corner_sum k e x y) (prefix k (λ i. e i y) x)
  corner_row e x y = sym (prefix_more (λ j. prefix k (λ i. e i j) x) y)

module _ {E : Type 0} {k : Ghosts E} (laws : Group k) where
  left_identity : (a : E) → k.joined k.neutral a ≡ a
  left_identity a = laws.commutative k.neutral a ∙ laws.identity a

  -- what was joined is left
  pub less_left : (a b : E) → less k (k.joined a b) a ≡ b
  less_left a b =
      let p = laws.commutative a b in
      let q = laws.associative b a (k.inverted a) in
      let r = laws.inverses a in
      let s = laws.identity b in
      cc

  pub less_back : (a b : E) → k.joined (less k a b) b ≡ a
  less_back a b = laws.associative a (k.inverted b) b ∙ ap (k.joined a) (laws.commutative (k.inverted b) b ∙ laws.inverses b) ∙ laws.identity a

  same_left : (a x y : E) → k.joined a x ≡ k.joined a y → x ≡ y
  same_left a x y e = sym (less_left a x) ∙ ap (λ v. less k v a) e ∙ less_left a y

  swap_mid : (a b x y : E) → k.joined (k.joined a b) (k.joined x y) ≡ k.joined (k.joined a x) (k.joined b y)
  swap_mid a b x y =
      laws.associative a b (k.joined x y)
      ∙ ap (k.joined a) (sym (laws.associative b x y) ∙ ap (λ v. k.joined v y) (laws.commutative b x) ∙ laws.associative x b y)
      ∙ sym (laws.associative a x (k.joined b y))

  -- what is left of four corners
  corners_left : (p q r t : E) → k.joined (less k (less k (k.joined p (k.joined q r)) (k.joined t q)) p) t ≡ r
  corners_left p q r t =
      let u = less k (k.joined p (k.joined q r)) (k.joined t q) in
      let v = less k u p in
      same_left (k.joined p q) (k.joined v t) r
      (swap_mid p q v t ∙ ap (λ x. k.joined x (k.joined q t)) (laws.commutative p v ∙ less_back u p) ∙ ap (k.joined u) (laws.commutative q t)
      ∙ less_back (k.joined p (k.joined q r)) (k.joined t q) ∙ sym (laws.associative p q r))

  -- a part that two sums have in common, shifted from the one to the other
  pub shifted : (a a' r : E) → k.joined (k.joined a r) (less k a' a) ≡ k.joined a' r
  shifted a a' r =
      laws.commutative (k.joined a r) (less k a' a) ∙ sym (laws.associative (less k a' a) a r) ∙ ap (λ v. k.joined v r) (less_back a' a)

  pub prefix_split : (f : ℕ → E) (a n : ℕ) → prefix k f (a + n) ≡ k.joined (prefix k f a) (prefix k (λ i. f (a + i)) n)
  prefix_split f a zero = ap (prefix k f) (let z : a + 0 ≡ a = omega arith in z) ∙ sym (laws.identity (prefix k f a))
  prefix_split f a (suc n) =
      ap (prefix k f) (let z : a + suc n ≡ suc (a + n) = omega arith in z)
      ∙ ap (λ v. k.joined v (f (a + n))) (prefix_split f a n)
      ∙ laws.associative (prefix k f a) (prefix k (λ i. f (a + i)) n) (f (a + n))

  pub from_prefix : (start : E) (f : ℕ → E) (n : ℕ) → prefix_from k start f n ≡ k.joined start (prefix k f n)
  from_prefix start f zero = sym (laws.identity start)
  from_prefix start f (suc n) = ap (λ v. k.joined v (f n)) (from_prefix start f n) ∙ laws.associative start (prefix k f n) (f n)

  prefix_joined : (f g : ℕ → E) (n : ℕ) → prefix k (λ i. k.joined (f i) (g i)) n ≡ k.joined (prefix k f n) (prefix k g n)
  prefix_joined f g zero = sym (laws.identity k.neutral)
  prefix_joined f g (suc n) =
      ap (λ v. k.joined v (k.joined (f n) (g n))) (prefix_joined f g n) ∙ swap_mid (prefix k f n) (prefix k g n) (f n) (g n)

  -- the columns below a, and n more
  pub corner_columns : (e : ℕ → ℕ → E) (a n y : ℕ) → corner_sum k e (a + n) y ≡ k.joined (corner_sum k e a y) (corner_sum k (λ i j. e (a + i) j) n y)
  corner_columns e a n y =
      prefix_same k (λ j. prefix k (λ i. e i j) (a + n)) (λ j. k.joined (prefix k (λ i. e i j) a) (prefix k (λ i. e (a + i) j) n)) y (λ j hj. prefix_split (λ i. e i j) a n)
      ∙ prefix_joined (λ j. prefix k (λ i. e i j) a) (λ j. prefix k (λ i. e (a + i) j) n) y

  -- the rows below c, and n more
  pub corner_rows : (e : ℕ → ℕ → E) (x c n : ℕ) → corner_sum k e x (c + n) ≡ k.joined (corner_sum k e x c) (corner_sum k (λ i j. e i (c + j)) x n)
  corner_rows e x c n = prefix_split (λ j. prefix k (λ i. e i j) x) c n

  -- rows joined one by one are their entries joined in reading order
  read_rows : (e : ℕ → ℕ → E) (a c w t : ℕ) → 0 < w → prefix k (λ j. prefix k (λ i. e (a + i) (c + j)) w) t ≡ prefix k (λ n. e (a + n % w) (c + n / w)) (w * t)
  read_rows e a c w zero some = ap (prefix k (λ n. e (a + n % w) (c + n / w))) (sym (mul-zero w))
  read_rows e a c w (suc t) some =
      let g : ℕ → E = λ n. e (a + n % w) (c + n / w) in
      ap (λ v. k.joined v (prefix k (λ i. e (a + i) (c + t)) w)) (read_rows e a c w t some)
      ∙ ap (k.joined (prefix k g (w * t))) (prefix_same k (λ i. e (a + i) (c + t)) (λ i. g (w * t + i)) w (λ i hi.
      let at : w * t + i ≡ t * w + i = ap (λ m. m + i) (mul_comm w t) in
      let col : (w * t + i) % w ≡ i = ap (λ m. m % w) at ∙ mod-mul-add t w i hi in
      let row : (w * t + i) / w ≡ t = ap (λ m. m / w) at ∙ div-mul-add t w i hi in
      sym (ap (λ m. e (a + m) (c + (w * t + i) / w)) col ∙ ap (λ m. e (a + i) (c + m)) row)))
      ∙ sym (prefix_split g (w * t) w)
      ∙ ap (prefix k g) (sym (mul-suc w t))

  -- the four corners of a rectangle of w columns from a on and t rows from c on
  pub corners_inside : (e : ℕ → ℕ → E) (a c w t : ℕ) → corners k (corner_sum k e) a (a + w) c (c + t) ≡ corner_sum k (λ i j. e (a + i) (c + j)) w t
  corners_inside e a c w t =
      let rest = λ (i j : ℕ). e i (c + j) in
      let before = corner_sum k rest a t in
      let inner = corner_sum k (λ i j. e (a + i) (c + j)) w t in
      let all : corner_sum k e (a + w) (c + t) ≡ k.joined (corner_sum k e (a + w) c) (k.joined before inner) =
      corner_rows e (a + w) c t ∙ ap (k.joined (corner_sum k e (a + w) c)) (corner_columns rest a w t) in
      let left : corner_sum k e a (c + t) ≡ k.joined (corner_sum k e a c) before = corner_rows e a c t in
      ap (λ v. k.joined (less k (less k v (corner_sum k e a (c + t))) (corner_sum k e (a + w) c)) (corner_sum k e a c)) all
      ∙ ap (λ v. k.joined (less k (less k (k.joined (corner_sum k e (a + w) c) (k.joined before inner)) v) (corner_sum k e (a + w) c)) (corner_sum k e a c)) left
      ∙ corners_left (corner_sum k e (a + w) c) before inner (corner_sum k e a c)

  pub four_corners_lem : (e : ℕ → ℕ → E) (a c w t : ℕ) → 0 < w → corners k (corner_sum k e) a (a + w) c (c + t) ≡ prefix k (λ n. e (a + n % w) (c + n / w)) (w * t)
  four_corners_lem e a c w t some = corners_inside e a c w t ∙ read_rows e a c w t some

  pub prefix_none : (f : ℕ → E) (n : ℕ) → ((i : ℕ) → i < n → f i ≡ k.neutral) → prefix k f n ≡ k.neutral
  prefix_none f zero none = refl
  prefix_none f (suc n) none =
      let before = prefix_none f n (λ i h. none i (omega arith)) in
      let here = none n (omega arith) in
      let last = laws.identity k.neutral in
      cc
