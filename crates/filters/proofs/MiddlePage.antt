-- What two steps leave in both memories. Assumes nothing.
use Rattle.std.proofs.Common.{◌≡◌, ℕ, ◌-◌, ◌*◌, ◌≤◌, ltb, leb, List, ◌++◌, map, length, take, drop, Ok, Err, Result, sym, refl, ap, ◌∙◌, subst, mul-zero, arith}
use lib.Seq.{take-append_seam}
use Rattle.std.specs.List.{range_with_len}
use Rattle.std.proofs.lemmas.List.FromFn.{length-map-range_with_len}
use Rattle.std.proofs.lemmas.Slice.{drop-append-drop}
use Rattle.std.proofs.lemmas.Bool.{cond-true, le-leb}
use Rattle.entry.specs.Kinds.{Ink, ink}
use Rattle.raster.specs.Drawn.{laid, page_byte, room_answer, Drawn}
use Rattle.raster.specs.declared.offsets.Offsets.{Offsets}
use Rattle.refusal.specs.Answers.{accepted, number_of}
use Rattle.refusal.specs.declared.Refusal.{Refusal}
use Rattle.refusal.proofs.Accepted.{accepted_same, both_accepted, never, test_passed}
use Rattle.sheet.specs.Page.{fits_answer}
use Rattle.sheet.specs.PageTable.{PageTable}
use Rattle.sheet.specs.Sheet.{table_size}
use Rattle.sheet.specs.View.{view_answer}
use Rattle.filters.specs.declared.step.Step.{Step}
use Rattle.filters.specs.Steps.{bytes_between, step_answer, step_byte, two_step_answer, TwoSteps}

module _ {A : Type 0} (f g : ℕ → A) (n : ℕ) (old : List A) where
  front : take n (laid f n old) ≡ map f (range_with_len 0 n)
  front = ap (λ m. take m (laid f n old)) (sym (length-map-range_with_len f 0 n)) ∙ take-append_seam (map f (range_with_len 0 n)) (drop n old)

  -- what is written a second time stands before the same rest
  twice : laid g n (laid f n old) ≡ laid g n old
  twice = ap (λ rest. map g (range_with_len 0 n) ++ rest) (drop-append-drop n old (map f (range_with_len 0 n)) n (omega arith) (length-map-range_with_len f 0 n))

  nothing : n ≡ 0 → laid f n old ≡ laid g n old
  nothing none = ap (λ m. laid f m old) none ∙ sym (ap (λ m. laid g m old) none)

-- an accepted step has as many bytes as the page
step_count : (w h long : ℕ) (e : List Offsets) (n : ℕ) → accepted n ≡ step_answer w h long e → n ≡ w * h
step_count w h long e n is =
    let both = both_accepted (room_answer w h long) _ n (sym is) in
    let second = test_passed (ltb 0 (length e)) 33 0 (accepted both.0) n both.2 in
    let first = test_passed (leb (w * h) long) 13 0 (accepted (w * h)) both.0 both.1 in
    sym (accepted_same (w * h) both.0 first.1 ∙ accepted_same both.0 n second.1)

module _ (first second : Step) (w h : ℕ) (memory : List Ink) (e : List Offsets) (between : List Ink) (page page₁ : List ℕ) (n : ℕ) (enough : table_size w h ≤ length between)
    (one : Drawn (step_answer w h (length page) e) w h (step_byte first w h memory e) (Ok n) page page₁) where
  in_two : step_answer w h (length page) e ≡ two_step_answer w h (length between) (length page) e
  in_two = sym (cond-true (leb (table_size w h) (length between)) _ _ (le-leb (table_size w h) (length between) enough))

  pub no_table : h ≡ 0 → TwoSteps first second w h memory e (Ok n) between between page page₁
  no_table none = record {
    answer = one.answer ∙ in_two;
    table = record { past = record { long = refl; same = refl }; table = λ some. absurd (omega arith) };
    drawn = one.effect ∙ nothing (page_byte w (step_byte first w h memory e)) (page_byte w (step_byte second w h between e)) (w * h) page (ap (λ m. w * m) none ∙ mul-zero w);
  }

  module _ (between' : List Ink) (table : PageTable ink w h h (take (n - 0) page₁) between between') (page₂ : List ℕ) (same : length page₁ ≡ length page) where
    middle : PageTable ink w h h (bytes_between first w h memory e) between between'
    middle =
        let f = page_byte w (step_byte first w h memory e) in
        let all : n ≡ w * h = step_count w h (length page) e n one.answer in
        let count : n - 0 ≡ w * h = omega arith in
        subst (λ levels. PageTable ink w h h levels between between') (ap (λ m. take m page₁) count ∙ ap (take (w * h)) one.effect ∙ front f f (w * h) page) table

    both_steps : (r : Result ℕ Refusal) → Drawn (step_answer w h (length page₁) e) w h (step_byte second w h between' e) r page₁ page₂ → TwoSteps first second w h memory e r between between' page page₂
    both_steps (Ok m) two = record {
      answer = two.answer ∙ ap (λ long. step_answer w h long e) same ∙ in_two;
      table = middle;
      drawn = two.effect ∙ ap (laid (page_byte w (step_byte second w h between' e)) (w * h)) one.effect ∙ twice (page_byte w (step_byte first w h memory e)) (page_byte w (step_byte second w h between' e)) (w * h) page;
    }
    both_steps (Err f) two = absurd (never (number_of f) 0 n (two.answer ∙ ap (λ long. step_answer w h long e) same ∙ sym one.answer))

    -- the table that is asked is the one that was laid
    pub with_table : (entries : List Ink) (tw th : ℕ) → accepted (entries, tw, th) ≡ view_answer between' w h → (r : Result ℕ Refusal) → Drawn (step_answer tw th (length page₁) e) tw th (step_byte second tw th entries e) r page₁ page₂ → TwoSteps first second w h memory e r between between' page page₂
    with_table entries tw th seen r two =
        let view = both_accepted (fits_answer w h (length between')) _ (entries, tw, th) (sym seen) in
        let is : (entries, tw, th) ≡ (between', w, h) = sym (accepted_same (between', w, h) (entries, tw, th) view.2) in
        both_steps r (subst (λ (t : List Ink × ℕ × ℕ). Drawn (step_answer t.1 t.2 (length page₁) e) t.1 t.2 (step_byte second t.1 t.2 t.0 e) r page₁ page₂) is two)
