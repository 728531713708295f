-- The text that the program prints, and what it has to do with the scan. Assumes nothing.
use Rattle.std.specs.Prelude.{ℕ, ◌*◌, List, [], ◌∷◌, ◌++◌, length, Ok, Err, codes, decimal, Result, slice_index}
use Rattle.entry.specs.Sums.{plain_sum}
use Rattle.refusal.specs.Answers.{Answer, accepted, refused, and_then, words, report_line}
use Rattle.refusal.specs.declared.Report.{Report}
use Rattle.scan.specs.Reading.{Image}
use Rattle.sheet.specs.PageTable.{page_answer}
use Rattle.plots.specs.declared.outcome.Surveyed.{Surveyed}

-- two lines: `sheet` with the sides, `total` with the sum of all levels
abbrev pub sheet_text : (width height total : ℕ) → List ℕ
sheet_text width height total = codes "sheet " ++ (decimal width ++ (32 ∷ (decimal height ++ (10 ∷ (codes "total " ++ decimal total)))))

abbrev pub surveyed_text : Surveyed → List ℕ
surveyed_text s = sheet_text s.width s.height s.total

abbrev pub outcome_text : Result Surveyed Report → List ℕ
outcome_text (Ok s) = surveyed_text s
outcome_text (Err report) = report_line report

-- the sum of all levels of a page, once its table is laid into so many entries
abbrev pub survey_answer : (width height room : ℕ) → List ℕ → Answer ℕ
survey_answer width height room levels = and_then (page_answer width height room (length levels)) (λ n. accepted (plain_sum (λ i. slice_index levels i) n))

-- the sides and the sum of the levels of an accepted scan, or number and place of its refusal by the reader
abbrev pub printed : Answer Image → List ℕ
printed (accepted image) = sheet_text image.width image.height (plain_sum (λ i. slice_index image.levels i) (image.width * image.height))
printed (refused number place) = words (codes "refused" ∷ (decimal number ∷ (decimal place ∷ (codes "reader" ∷ []))))
