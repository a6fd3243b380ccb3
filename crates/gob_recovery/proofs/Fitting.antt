-- Which bytes, names and steps a sequence may have, as tables.
use Rattle.std.proofs.Common.{◌≡◌, true, false, [], ◌∷◌, map, filter, refl, codes}
use Rattle.std.specs.List.{range_with_len}
use Rattle.gob_recovery.specs.Sequence.{is_file_name, is_sequence_byte, move, remove, step_fits}

pub name_bytes :
    filter is_sequence_byte (range_with_len 0 300) ≡ codes
    "%-./0123456789@ABCDEFGHIJKLMNOPQRSTUVWXYZ_abcdefghijklmnopqrstuvwxyz"
name_bytes = refl

pub file_names :
    map is_file_name ([] ∷ codes "a" ∷ codes "j1/out/0/a%20b.log@0-4.txt" ∷ codes "a b" ∷ codes "a\n" ∷ codes "a&" ∷ [])
    ≡ false ∷ true ∷ true ∷ false ∷ false ∷ false ∷ []
file_names = refl

-- a staged file of the job goes to a name of the job that isn't staged, and neither of them is a sequence
pub moves :
    map (step_fits (codes "j1"))
    (move (codes "j1/stage/0-0/out/a") (codes "j1/out/a") ∷ move (codes "j1/stage/state") (codes "j1/state")
    ∷ move (codes "j1/stage/seq") (codes "j1/out/a") ∷ move (codes "j1/out/b") (codes "j1/out/a")
    ∷ move (codes "j1/stage/a") (codes "j1/seq") ∷ move (codes "j1/stage/a") (codes "j1/stage/b")
    ∷ move (codes "j2/stage/a") (codes "j1/a") ∷ move (codes "j1/stage/a") (codes "j2/a")
    ∷ move (codes "j1/stage/a b") (codes "j1/a") ∷ move (codes "j1/stage/a") (codes "j1/a b") ∷ [])
    ≡ true ∷ true ∷ false ∷ false ∷ false ∷ false ∷ false ∷ false ∷ false ∷ false ∷ []
moves = refl

-- a name of the job that isn't staged is taken away, but no sequence
pub removals :
    map (step_fits (codes "j1"))
    (remove (codes "j1/delta/1") ∷ remove (codes "j1/stage/a") ∷ remove (codes "j1/seq") ∷ remove (codes "j2/a")
    ∷ remove (codes "j1/a b") ∷ [])
    ≡ true ∷ false ∷ false ∷ false ∷ false ∷ []
removals = refl
