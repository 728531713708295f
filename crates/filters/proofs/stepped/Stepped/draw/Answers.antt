use Rattle.std.proofs.Common.{ℕ, ap, rules}
use Rattle.filters.specs.Steps.{step_byte}
use Rattle.raster.proofs.Pages.{pictured}
use Rattle.sheet.specs.View.{of_table}
use Rattle.filters.proofs.stepped.Stepped.draw.Goals as goal

pub returns : goal.returns
returns c =
    let stepped = c.args.self.now in
    let table = stepped.table.now in
    pictured _ (of_table table (step_byte stepped.step) stepped.element.now) (λ x y r post. search rules) _ _ table.frame c.draw.result c.args.page.now c.draw.new.page (ap (λ (p : ℕ × ℕ). p.0) c.sides-width.ensures) (ap (λ (p : ℕ × ℕ). p.1) c.sides-width.ensures) c.draw.ensures
