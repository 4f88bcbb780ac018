-- `character::find_stretch` meets its contract. Assumes nothing.
use Rattle.character.proofs.find_stretch.Goals as goal

pub stretch_at-requires : goal.stretch_at-requires
stretch_at-requires c = record { placed = c.place_of-i.ensures }
