use Rattle.std.proofs.Common.{◌≡◌, true, length, sym, ap, ◌∙◌, inl, arith}
use Rattle.std.proofs.lemmas.Bool.{cond-true}
use Rattle.refusal.specs.Answers.{accepted}
use Rattle.sheet.specs.Page.{on_sheet}
use Rattle.beside.specs.Pixels.{left_of}
use Rattle.beside.proofs.Counting.{listed, on_page, drained_length}
use Rattle.beside.proofs.size.Size.count.Goals as goal

pub count-requires-clause-fits : goal.count-requires-clause-fits
count-requires-clause-fits c =
    let w = c.args.self.width in
    let h = c.args.self.height in
    let on : on_sheet w h c.args.rect ≡ true = sym c.has.ensures ∙ c.if-not-has.false in
    inl (omega (arith, ap length c.of.ensures, on_page w h c.args.rect on c.args.self.few_columns c.args.self.few_rows))

pub returns : goal.returns
returns c =
    let w = c.args.self.width in
    let h = c.args.self.height in
    let on : on_sheet w h c.args.rect ≡ true = sym c.has.ensures ∙ c.if-not-has.false in
    ap accepted (c.count.ensures.ran.2 ∙ sym (drained_length left_of c.count.ensures.ran.0 c.of.result c.count.ensures.ran.1) ∙ ap length c.of.ensures ∙ listed w h c.args.rect on) ∙ sym (cond-true (on_sheet w h c.args.rect) _ _ on)
