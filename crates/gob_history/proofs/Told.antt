-- What a group leaves of the state, and what a reader may meet, on small values.
use Rattle.std.proofs.Common.{◌≡◌, ℕ, Bool, true, false, cond, List, [], ◌∷◌, None, Some, refl, sym, ap, ◌∙◌, codes}
use Rattle.std.proofs.lemmas.Bool.{true≢false}
use Rattle.std.specs.declared.option.Option.{Option}
use Rattle.std.specs.Str.{bytes_eq}
use Rattle.gob_bytes.specs.Paths.{is_published}
use Rattle.gob_bytes.proofs.Tables.{same_name}
use Rattle.gob_device.specs.Disk.{File, Files, dirty, no_files, put}
use Rattle.gob_ledger.specs.Delta.{Kept}
use Rattle.gob_ledger.specs.Next.{Judged}
use Rattle.gob_ledger.specs.State.{State}
use Rattle.gob_history.specs.Runs.{Readable, kept_where, stored_where}

-- a group of which no unit is committed leaves what is stored, and one more unit makes the next state
pub stored_told : (o : Option State) (k : Option Kept) (s : State) (next : Kept) (j : Judged) (js : List Judged)
    → (stored_where o s [] ≡ o) × (stored_where o s (j ∷ js) ≡ Some s)
    × (kept_where k next [] ≡ k) × (kept_where k next (j ∷ js) ≡ Some next)
stored_told o k s next j js = (refl, refl, refl, refl)

abbrev loose : File
loose = dirty [] (codes "x")

abbrev only : List ℕ → Files
only name = put no_files name (Some loose)

-- what isn't published may be unsynced, and what is published may not
pub readers_told : Readable (codes "j") [] None (only (codes "j/state"))
    × (Readable (codes "j") [] None (only (codes "j/out/a")) → ⊥)
readers_told = (
  λ name f published there. nothing (bytes_eq name (codes "j/state")) name f refl published there,
  λ reads. let read = reads (codes "j/out/a") loose refl refl in cc read.1,
)
  where
    nothing : {A : Type 0} (b : Bool) (name : List ℕ) (f : File) → bytes_eq name (codes "j/state") ≡ b
        → is_published (codes "j") name ≡ true → cond b (Some loose) None ≡ Some f → A
    nothing true name f same published there =
        absurd (true≢false (sym published ∙ ap (is_published (codes "j")) (same_name name (codes "j/state") same)))
    nothing false name f same published there = cc there
