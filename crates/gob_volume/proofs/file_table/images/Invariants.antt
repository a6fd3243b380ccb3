use Rattle.std.proofs.Common.{◌≡◌, map, take}
use Rattle.gob_volume.specs.Crashes.{image_of}
use Rattle.gob_volume.proofs.file_table.images.Given as goal

abbrev pub invariant-loop-name : goal.invariant-loop-name
invariant-loop-name l = l.images.items ≡ map (λ e. (e.0, image_of l.tail e.1)) (take l.name-index l.entries)
