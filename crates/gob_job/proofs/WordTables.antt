-- Tables of words, and forms by their first words.
use Rattle.std.proofs.Common.{◌≡◌, ℕ, Bool, true, false, cond, List, [], ◌∷◌, map, Option, Some, None, refl, ap}
use Rattle.std.proofs.Common.{◌∙◌}
use Rattle.std.specs.Option.{option_map, option_and_then}
use Rattle.std.specs.Str.{bytes_eq}
use Rattle.gob_bytes.specs.Tables.{Table, at_name}
use Rattle.gob_jobs.specs.Elements.{Form, form_in}

-- a table with other values
abbrev pub changed : {A B : Type 0} → (A → B) → Table A → Table B
changed f table = map (λ e. (e.0, f e.1)) table

cond_map : {A B : Type 0} (f : A → B) (v : Bool) (x : A) (o : Option A) (p : Option B) → p ≡ option_map f o
    → cond v (Some (f x)) p ≡ option_map f (cond v (Some x) o)
cond_map f true x o p is = refl
cond_map f false x o p is = is

pub at_changed : {A B : Type 0} (f : A → B) (table : Table A) (name : List ℕ)
    → at_name (changed f table) name ≡ option_map f (at_name table name)
at_changed f [] name = refl
at_changed f (e ∷ es) name = cond_map f (bytes_eq name e.0) e.1 (at_name es name) (at_name (changed f es) name)
    (at_changed f es name)

through : {W X : Type 0} (form : W → Form X) (o : Option W) (more : List (List ℕ))
    → option_and_then (λ g. g more) (option_map form o) ≡ option_and_then (λ w. form w more) o
through form None more = refl
through form (Some w) more = refl

-- the form of a first word is that of the word's value
pub formed_by : {W X : Type 0} (form : W → Form X) (words : Table W) (first : List ℕ) (more : List (List ℕ))
    → form_in (changed form words) (first ∷ more) ≡ option_and_then (λ w. form w more) (at_name words first)
formed_by form words first more =
    ap (option_and_then (λ g. g more)) (at_changed form words first) ∙ through form (at_name words first) more
