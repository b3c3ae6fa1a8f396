use Rattle.std.proofs.Common.{rules, tests}
use mathlib.Core.Path.{◌∙◌}
use native.Mathlib.Omega.{arith}
use Rattle.std.proofs.lemmas.Iterator.{YieldsList-from_range}
use Rattle.std.proofs.lemmas.Iterator.Consumers.{count_from_yields_List, YieldsList-from_filter}
use Rattle.pages.specs.Pages as pages
use Rattle.pages.specs.Pages.{pages_in}
use Rattle.counts.specs.View.{alive_at}
use Rattle.counts.proofs.Ending.{counted}
use Rattle.counts.proofs.live.Goals as goal

pub returns : goal.returns
returns c = let A = pages_in c.args.cells.now pages.lives in
    count_from_yields_List c.filter.result c.count.result c.count.ensures.ran (YieldsList-from_filter _ (alive_at A) (YieldsList-from_range 0 c.args.made c.args.made c.filter.ensures.source (omega arith)) c.filter.ensures.closure (λ x r q k. search (rules, tests)))
    ∙ counted A c.args.made
