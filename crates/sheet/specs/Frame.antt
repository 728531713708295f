-- The size of a sheet, and whether memory has room for its table. Assumes nothing.
use Rattle.std.specs.Prelude.{◌≡◌, ℕ, ◌+◌, ◌*◌, ◌<◌, ◌≤◌, Result}
use Rattle.refusal.specs.Answers.{accepted, answer_of, and_then}
use Rattle.refusal.specs.declared.Refusal.{Refusal}
use Rattle.sheet.specs.declared.frame.Frame.{Frame}
use Rattle.sheet.specs.declared.span.Span.{Span}
use Rattle.sheet.specs.Page.{fits_answer}

-- n entries have room for the table, if the sheet has one
abbrev pub HasRoom : Frame → ℕ → Type 0
HasRoom frame n = 0 < frame.height → (frame.width + 1) * (frame.height + 1) ≤ n

abbrev pub size_of : Frame → ℕ × ℕ
size_of frame = (frame.width, frame.height)

-- the size that was asked for, or the refusal of what does not fit
abbrev pub Fitted : (width height room : ℕ) → Result Frame Refusal → Type 0
Fitted width height room r = answer_of size_of (λ e. e) (λ e. 0) r ≡ and_then (fits_answer width height room) (λ fit. accepted (width, height))

abbrev pub all_columns : Frame → Span
all_columns frame = record { start = 0; end = frame.width }
