use Rattle.std.proofs.Common.{ℕ, ap, rules}
use Rattle.raster.specs.Region.{window_byte}
use Rattle.sheet.specs.View.{of_table}
use Rattle.raster.proofs.Pages.{pictured}
use Rattle.raster.proofs.windowed.draw_windowed.Goals as goal

pub returns : goal.returns
returns g c = pictured _ (of_table c.args.table.now (window_byte g.T.Entry g.T.Modular g.shade) c.args.window) (λ x y r post. search rules) _ _ c.args.table.now.frame c.draw.result c.args.page.now c.draw.new.page (ap (λ (p : ℕ × ℕ). p.0) c.sides-width.ensures) (ap (λ (p : ℕ × ℕ). p.1) c.sides-width.ensures) c.draw.ensures
