-- What an entry that is put changes.
use Rattle.std.proofs.Common.{◌≡◌, ℕ, Bool, true, false, cond, bytes_eq, List, [], ◌∷◌, ◌++◌, refl, sym, ap, ◌∙◌}
use Rattle.std.proofs.Common.{Some, is_some}
use Rattle.gob_bytes.specs.Tables.{at_name, names_of}
use Rattle.gob_bytes.proofs.Tables.{same_name, name_itself, cond_twice, cond_shadowed}
use Rattle.gob_props.specs.Properties.{KeyValue, with_entry}
use Rattle.gob_props.specs.Laws.{PutsEntry}

values : (es : List KeyValue) (new : KeyValue) (key : List ℕ) →
    at_name (with_entry es new) key ≡ cond (bytes_eq key new.0) (Some new.1) (at_name es key)
values [] new key = refl
values (e ∷ es) new key = either (bytes_eq new.0 e.0) refl (values es new key)
  where
    either : (b : Bool) → bytes_eq new.0 e.0 ≡ b →
        at_name (with_entry es new) key ≡ cond (bytes_eq key new.0) (Some new.1) (at_name es key) →
        at_name (cond b ((e.0, new.1) ∷ es) (e ∷ with_entry es new)) key
        ≡ cond (bytes_eq key new.0) (Some new.1) (at_name (e ∷ es) key)
    either true same more =
        let n : new.0 ≡ e.0 = same_name new.0 e.0 same in
        cond_shadowed (bytes_eq key e.0) (Some new.1) (Some e.1) (at_name es key)
        ∙ ap (λ q. cond (bytes_eq key q) (Some new.1) (at_name (e ∷ es) key)) (sym n)
    either false apart more =
        ap (λ o. cond (bytes_eq key e.0) (Some e.1) o) more
        ∙ cond_twice (bytes_eq key e.0) (bytes_eq key new.0) (Some e.1) (Some new.1) (at_name es key)
        (λ a b. let n : new.0 ≡ e.0 = sym (same_name key new.0 b) ∙ same_name key e.0 a in
        let is : bytes_eq new.0 e.0 ≡ true = ap (bytes_eq new.0) (sym n) ∙ name_itself new.0 in cc)

keys : (es : List KeyValue) (new : KeyValue) →
    names_of (with_entry es new) ≡ cond (is_some (at_name es new.0)) (names_of es) (names_of es ++ new.0 ∷ [])
keys [] new = refl
keys (e ∷ es) new = either (bytes_eq new.0 e.0) refl (keys es new)
  where
    either : (b : Bool) → bytes_eq new.0 e.0 ≡ b →
        names_of (with_entry es new) ≡ cond (is_some (at_name es new.0)) (names_of es) (names_of es ++ new.0 ∷ []) →
        names_of (cond b ((e.0, new.1) ∷ es) (e ∷ with_entry es new))
        ≡ cond (is_some (cond b (Some e.1) (at_name es new.0))) (names_of (e ∷ es)) (names_of (e ∷ es) ++ new.0 ∷ [])
    either true same more = refl
    either false apart more =
        ap (λ names. e.0 ∷ names) more
        ∙ elim (is_some (at_name es new.0)) as (λ v. e.0 ∷ cond v (names_of es) (names_of es ++ new.0 ∷ [])
        ≡ cond v (e.0 ∷ names_of es) (e.0 ∷ names_of es ++ new.0 ∷ [])) [ true ↦ refl | false ↦ refl ]

pub puts_entry : (es : List KeyValue) (new : KeyValue) → PutsEntry es new
puts_entry es new = record { values = values es new; keys = keys es new }
