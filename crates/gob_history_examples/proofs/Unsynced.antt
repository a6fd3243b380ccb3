-- A crash may leave a zero byte of a state file that isn't synced, and no state is spelled so.
use Rattle.std.proofs.Common.{◌≡◌, ℕ, Bool, true, false, List, [], ◌∷◌, codes, refl, sym, ap, ◌∙◌, subst, arith, inl}
use Rattle.std.specs.declared.option.Option.{Option}
use Rattle.std.specs.declared.option.Option.TheVariants.{None, Some}
use Rattle.std.specs.Prelude.{if◌then◌else◌}
use Rattle.std.specs.Str.{bytes_eq}
use Rattle.gob_bytes.specs.Paths.{begins_with, staging}
use Rattle.gob_bytes.proofs.Tables.{same_name}
use Rattle.gob_device.specs.Disk.{FileImage, Files, Image, clean, dirty, no_files, put}
use Rattle.gob_ledger.specs.State.{State}
use Rattle.gob_ledger.specs.Spelling.{Version, state_spelling, version_2}
use Rattle.gob_ledger.specs.Examples.{plain_state}
use Rattle.gob_recovery.specs.Settle.{without_staging}
use Rattle.gob_recovery.proofs.Spelled.{to_one}
use Rattle.gob_history.specs.Sound.{AllRecoverTo, Stores}
use Rattle.gob_history.proofs.Stands.{kept_all}
use Rattle.gob_history_examples.specs.Unsynced.{UnsyncedStandsForNothing, unsynced_files}

abbrev left : Files
left = put no_files (codes "j1/state") (Some (clean (0 ∷ [])))

is_left : Image unsynced_files left
unfolding Image
is_left name = cases (bytes_eq name (codes "j1/state"))
  where
    cases : (b : Bool) → FileImage (if b then Some (dirty [] (state_spelling version_2 plain_state)) else None)
        (if b then Some (clean (0 ∷ [])) else None)
    cases true = (0 ∷ [], refl)
    cases false = tt

first : List ℕ → ℕ
first [] = 0
first (x ∷ xs) = x

begins : (v : Version) (s : State) → first (state_spelling v s) ≡ 103
unfolding state_spelling first
begins v s = refl

none_stored : (o : Option State) → Stores (codes "j1") left o → ⊥
unfolding first
none_stored o (None, k, e) = let no : Some (0 ∷ []) ≡ None = k.base in cc
none_stored o (Some l, k, e) =
    let text : 0 ∷ [] ≡ state_spelling l.version l.base = let both : Some (0 ∷ []) ≡ Some
    (state_spelling l.version l.base) = k.0.base in cc in
    let no : 0 ≡ 103 = ap first text ∙ begins l.version l.base in absurd (omega (arith, no))

pub stands_for_nothing : UnsyncedStandsForNothing
unfolding AllRecoverTo without_staging
stands_for_nothing archive o all =
    let x = all left is_left in
    let is : x.0 ≡ left = to_one (codes "j1") left x.0 left x.1 (inl (
      refl,
      λ i name. kept_all left (codes "j1") name (none name) i,
    )) in
    none_stored o (subst (λ m. Stores (codes "j1") m o) is x.2)
  where
    none : (name : List ℕ) → begins_with (staging (codes "j1")) name ≡ true → left name ≡ None
    none name below = cases (bytes_eq name (codes "j1/state")) refl
      where
        cases : (b : Bool) → bytes_eq name (codes "j1/state") ≡ b → (if b then Some (clean (0 ∷ [])) else None) ≡ None
        cases true is = absurd (let no : false ≡ true = ap (begins_with (staging (codes "j1")))
            (sym (same_name name (codes "j1/state") is)) ∙ below in cc)
        cases false is = refl
