-- After any run the sheet's table is that of its plain page. Assumes nothing.
use Rattle.std.proofs.Common.{◌≡◌, ℕ, ◌+◌, List, length, get_or, Ok, Err, Result, sym, refl, ap, ◌∙◌, subst, MatchResult}
use Rattle.entry.specs.Group.{Group}
use Rattle.entry.specs.declared.kind.entry.Entry.{Ghosts}
use Rattle.refusal.specs.Answers.{Answer, accepted, refused, told}
use Rattle.refusal.specs.declared.Refusal.{Refusal}
use Rattle.sheet.specs.declared.rectangle.Rectangle.{Rectangle}
use Rattle.sheet.specs.Page.{Page, Levels, capped, if_accepted, blank, begin, fits_answer, feed, feed_answer, with_row, with_rest, finish, edited, overlaid, wipe_answer, patch_answer, area}
use Rattle.sheet.specs.Run.{GrowingRun, FinishedRun, begun, fed, ended, wiped, patched, RunsAgree}
use Rattle.sheet.specs.Sheet.{GrowingState, FinishedState, Holds, RowFed, Fed, Ended, Edited, Renewed, four_corners, sum_answer}
use Rattle.sheet.proofs.FourCorners.{sums_read, sums_answered}

moved : (F : ℕ → ℕ → Type 0) (w w' h h' : ℕ) → w ≡ w' → h ≡ h' → F w h → F w' h'
moved F w w' h h' e d x = subst (λ a. F a h') e (subst (F w) d x)

no_rows : (w h : ℕ) (a : Answer (Unit {0})) → (if_accepted a (blank w h) (blank 0 0)).rows ≡ 0
no_rows w h (accepted u) = refl
no_rows w h (refused n p) = refl

-- a growing sheet is that of its page so far
record GrowingLike {E : Type 0} (k : Ghosts E) (s : GrowingState E) (p : Page) : Type 0 where
  width_is : s.width ≡ p.width
  height_is : s.height ≡ p.height
  rows_is : s.fed ≡ p.rows
  table : Holds k p.width p.height p.rows p.level s.memory

-- a finished sheet is that of its page
record FinishedLike {E : Type 0} (k : Ghosts E) (s : FinishedState E) (p : Page) : Type 0 where
  width_is : s.width ≡ p.width
  height_is : s.height ≡ p.height
  edits_is : s.edits ≡ p.edits
  laid_is : s.laid ≡ p.laid
  table : Holds k p.width p.height p.height p.level s.memory

module _ {E : Type 0} (k : Ghosts E) where
  -- what a change of the sheet's table is to its page
  on_page : (w w' h h' rows rows' n n' : ℕ) (change : Levels → Levels) (p : Levels) (before after : List E) → w ≡ w' → h ≡ h' → rows ≡ rows' → n ≡ n' →
      Renewed k w h rows n change before after → Holds k w' h' rows' p before → Holds k w' h' n' (change p) after
  unfolding Renewed
  on_page w w' h h' rows rows' n n' change p before after ew eh er en d was =
      let old : Holds k w h rows p before = moved (λ a b. Holds k a b rows p before) w' w h' h (sym ew) (sym eh) (subst (λ m. Holds k w' h' m p before) (sym er) was) in
      moved (λ a b. Holds k a b n' (change p) after) w w' h h' ew eh (subst (λ m. Holds k w h m (change p) after) en (d.table p old))

  module _ (s t : GrowingState E) (p : Page) (row : List ℕ) (was : GrowingLike k s p) where
    abbrev longer : Page
    longer = record { width = p.width; height = p.height; rows = p.rows + 1; level = with_row p.rows row p.level; edits = p.edits; laid = p.laid }

    fed_case : (r : Result ℕ Refusal) → MatchResult r (λ n. RowFed k s row t) (λ e. t ≡ s) → GrowingLike k t (if_accepted (told r) longer p)
    fed_case (Err e) d = subst (λ u. GrowingLike k u p) (sym d) was
    fed_case (Ok n) d = record {
      width_is = d.width_is ∙ was.width_is;
      height_is = d.height_is ∙ was.height_is;
      rows_is = d.fed_is ∙ ap (λ m. m + 1) was.rows_is;
      table =
          let at : Renewed k s.width s.height s.fed (s.fed + 1) (with_row p.rows row) s.memory t.memory =
          subst (λ n. Renewed k s.width s.height s.fed (s.fed + 1) (with_row n row) s.memory t.memory) was.rows_is d.table in
          on_page s.width p.width s.height p.height s.fed p.rows (s.fed + 1) (p.rows + 1) (with_row p.rows row) p.level s.memory t.memory was.width_is was.height_is was.rows_is (ap (λ m. m + 1) was.rows_is) at was.table;
    }

    fed_like : (r : Result ℕ Refusal) → Fed k s row r t → GrowingLike k t (feed row p)
    fed_like r f =
        let is : told r ≡ feed_answer p.width p.height p.rows row =
        f.answer ∙ ap (λ w. feed_answer w s.height s.fed row) was.width_is ∙ ap (λ h. feed_answer p.width h s.fed row) was.height_is ∙ ap (λ n. feed_answer p.width p.height n row) was.rows_is in
        subst (λ a. GrowingLike k t (if_accepted a longer p)) is (fed_case r f.effect)

  grown : {s : GrowingState E} {p : Page} → GrowingRun k s p → GrowingLike k s p
  grown (begun memory width height {t} b) =
      let p = begin width height (length memory) in
      let none = no_rows width height (fits_answer width height (length memory)) in
      record {
        width_is = b.width_is;
        height_is = b.height_is;
        rows_is = b.fed_is ∙ sym none;
        table = moved (λ w h. Holds k w h p.rows p.level t.memory) t.width p.width t.height p.height b.width_is b.height_is (subst (λ n. Holds k t.width t.height n p.level t.memory) (sym none) (b.blank.table p.level));
      }
  grown (fed {s} {t} {p} row r g f) = fed_like s t p row (grown g) r f

  ended_like : (s : GrowingState E) (t : FinishedState E) (p : Page) (level : ℕ) → GrowingLike k s p → Ended k s level t → FinishedLike k t (finish level p)
  ended_like s t p level was d = record {
    width_is = d.width_is ∙ was.width_is;
    height_is = d.height_is ∙ was.height_is;
    edits_is = d.edits_is;
    laid_is = d.laid_is;
    table =
        let at : Renewed k s.width s.height s.fed s.height (with_rest p.rows level) s.memory t.memory =
        subst (λ n. Renewed k s.width s.height s.fed s.height (with_rest n level) s.memory t.memory) was.rows_is d.table in
        on_page s.width p.width s.height p.height s.fed p.rows s.height p.height (with_rest p.rows level) p.level s.memory t.memory was.width_is was.height_is was.rows_is was.height_is at was.table;
  }

  module _ (s t : FinishedState E) (p : Page) (rect : Rectangle) (f : ℕ → ℕ) (was : FinishedLike k s p) where
    edited_like : (r : Result ℕ Refusal) → MatchResult r (λ n. Edited k s rect f t) (λ e. t ≡ s) → FinishedLike k t (if_accepted (told r) (edited rect f p) p)
    edited_like (Err e) d = subst (λ u. FinishedLike k u p) (sym d) was
    edited_like (Ok n) d = record {
      width_is = d.width_is ∙ was.width_is;
      height_is = d.height_is ∙ was.height_is;
      edits_is = d.edits_is ∙ ap (λ m. capped (m + 1)) was.edits_is;
      laid_is = d.laid_is ∙ ap (λ m. capped (m + area rect)) was.laid_is;
      table = on_page s.width p.width s.height p.height s.height p.height s.height p.height (overlaid rect f) p.level s.memory t.memory was.width_is was.height_is was.height_is was.height_is d.table was.table;
    }

  stood : {s : FinishedState E} {p : Page} → FinishedRun k s p → FinishedLike k s p
  stood (ended {s} {t} {p} level g d) = ended_like s t p level (grown g) d
  stood (wiped {s} {t} {p} rect level r g d) =
      let was = stood g in
      let is : told r ≡ wipe_answer p.width p.height rect = d.answer ∙ ap (λ w. wipe_answer w s.height rect) was.width_is ∙ ap (λ h. wipe_answer p.width h rect) was.height_is in
      subst (λ a. FinishedLike k t (if_accepted a (edited rect (λ n. level) p) p)) is (edited_like s t p rect (λ n. level) was r d.effect)
  stood (patched {s} {t} {p} rect levels r g d) =
      let was = stood g in
      let is : told r ≡ patch_answer p.width p.height rect levels = d.answer ∙ ap (λ w. patch_answer w s.height rect levels) was.width_is ∙ ap (λ h. patch_answer p.width h rect levels) was.height_is in
      subst (λ a. FinishedLike k t (if_accepted a (edited rect (λ n. get_or levels n 0) p) p)) is (edited_like s t p rect (λ n. get_or levels n 0) was r d.effect)

pub runs_agree : {E : Type 0} {k : Ghosts E} → Group k → RunsAgree k
runs_agree {E} {k} laws = record {
  agree = λ s p run.
      let same = stood k run in
      record {
        width_is = same.width_is;
        height_is = same.height_is;
        edits_is = same.edits_is;
        laid_is = same.laid_is;
        table = same.table;
        sums = λ r on. ap (λ w. four_corners k w s.memory r) same.width_is ∙ sums_read laws p.width p.height p.level s.memory same.table r on;
        answers = λ r.
            ap (λ w. sum_answer k w s.height s.memory r) same.width_is ∙ ap (λ h. sum_answer k p.width h s.memory r) same.height_is
            ∙ sums_answered laws p.width p.height p.level s.memory same.table r;
      };
}
