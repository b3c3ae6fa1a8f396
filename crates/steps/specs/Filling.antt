-- What a step leaves as it is of a request and the table that it is read into. Assumes nothing.
use Rattle.std.specs.Prelude.{◌≡◌, length}
use Rattle.steps.specs.declared.Filling.{Filling}

-- the request, which table it is, and how long that is
abbrev pub Same : Filling → Filling → Type 0
Same f g = (g.request.now ≡ f.request.now) × (g.table.ghost_name ≡ f.table.ghost_name) × (length g.table.now ≡ length f.table.now)
