-- A map keeps one thing; where it is damaged it keeps nothing, and one name is to blame.
use Rattle.std.proofs.Common.{◌≡◌, ◌≢◌, ⊎_elim, ℕ, ◌^◌, ◌<◌, Bool, true, false, cond, List, [], ◌∷◌, refl, sym, ap}
use Rattle.std.proofs.Common.{subst, ◌∙◌, Some, None, arith}
use Rattle.std.proofs.lemmas.Option.{same_Some}
use Rattle.std.specs.declared.option.Option.{Option}
use Rattle.std.specs.List.{Contains}
use Rattle.std.specs.Str.{bytes_eq}
use Rattle.gob_bytes.proofs.Tables.{name_itself, same_name, two_names}
use Rattle.gob_bytes.specs.Paths.{begins_with, delta_folder, delta_name}
use Rattle.gob_ledger.specs.State.{State}
use Rattle.gob_ledger.specs.Spelling.{Version, Proper, state_spelling}
use Rattle.gob_ledger.specs.Delta.{delta_spelling, EachLeads, delta_at}
use Rattle.gob_ledger.specs.Laws.{KeepsOne}
use Rattle.gob_ledger.proofs.Members.{none_in, first_in, later_in, in_cases}
use Rattle.gob_ledger.proofs.DeltaNames.{change_below, same_number_named}
use Rattle.gob_ledger.proofs.ReadingState.{one_spelling}
use Rattle.gob_ledger.proofs.ReadingChange.{one_change}

-- ---- the texts of changes, by name

pub first_change : (job : List ℕ) (v : Version) (s t : State) (ts : List State)
    → delta_at job v s (t ∷ ts) (delta_name job t.run) ≡ Some (delta_spelling v s t)
first_change job v s t ts =
    ap (λ b. cond b (Some (delta_spelling v s t)) (delta_at job v t ts (delta_name job t.run)))
    (name_itself (delta_name job t.run))

pub other_change : (job : List ℕ) (v : Version) (s t : State) (ts : List State) (name : List ℕ)
    → name ≢ delta_name job t.run → delta_at job v s (t ∷ ts) name ≡ delta_at job v t ts name
other_change job v s t ts name apart =
    ap (λ b. cond b (Some (delta_spelling v s t)) (delta_at job v t ts name))
    (two_names name (delta_name job t.run) apart)

-- the later states have greater numbers
pub runs_rise : (v : Version) (s : State) (ts : List State) (t : State) → EachLeads v s ts → Contains ts t
    → (s.run < t.run) × (t.run < 2 ^ 64)
runs_rise v s [] t each h = none_in t h
runs_rise v s (u ∷ us) t each h =
    let one = each.0.follows.run in
    let small = each.0.proper.run in
    ⊎_elim
    (λ e. subst (λ (w : State). (s.run < w.run) × (w.run < 2 ^ 64)) e (omega (arith, one), small))
    (λ k. let r = runs_rise v u us t each.1 k in (omega (arith, one, r.0), r.1))
    (in_cases u us t h)

-- a name with a text is a later state's
pub named_by_one : (job : List ℕ) (v : Version) (s : State) (ts : List State) (name text : List ℕ)
    → delta_at job v s ts name ≡ Some text → (t : State) × Contains ts t × (name ≡ delta_name job t.run)
named_by_one job v s [] name text e = absurd (let never : None ≡ Some text = e in cc)
named_by_one job v s (t ∷ ts) name text e =
    cases (bytes_eq name (delta_name job t.run)) refl e (named_by_one job v t ts name text)
  where
    cases : (b : Bool) → bytes_eq name (delta_name job t.run) ≡ b
        → cond b (Some (delta_spelling v s t)) (delta_at job v t ts name) ≡ Some text
        → (delta_at job v t ts name ≡ Some text → (u : State) × Contains ts u × (name ≡ delta_name job u.run))
        → (u : State) × Contains (t ∷ ts) u × (name ≡ delta_name job u.run)
    cases true is e later = (t, first_in t ts t refl, same_name name (delta_name job t.run) is)
    cases false is e later = let r = later e in (r.0, later_in t ts r.0 r.1, r.2)

-- a state's own number isn't that of a later one
pub own_name : (job : List ℕ) (v : Version) (t : State) (ts : List State) → EachLeads v t ts → t.run < 2 ^ 64
    → (u : State) → Contains ts u → delta_name job u.run ≢ delta_name job t.run
own_name job v t ts each small u h e =
    let r = runs_rise v t ts u each h in
    let same = same_number_named job u.run t.run r.1 small e in omega (arith, same, r.0)

pub no_own_text : (job : List ℕ) (v : Version) (t : State) (ts : List State) → EachLeads v t ts → t.run < 2 ^ 64
    → delta_at job v t ts (delta_name job t.run) ≡ None
no_own_text job v t ts each small = cases (delta_at job v t ts (delta_name job t.run)) refl
  where
    cases : (o : Option (List ℕ)) → delta_at job v t ts (delta_name job t.run) ≡ o
        → delta_at job v t ts (delta_name job t.run) ≡ None
    cases None e = e
    cases (Some text) e = absurd (
        let r = named_by_one job v t ts (delta_name job t.run) text e in
        own_name job v t ts each small r.0 r.1 (sym r.2))

-- ---- a map keeps one thing

-- the texts tell the states
same_later : (job : List ℕ) (v : Version) (s : State) (ts us : List State) → Proper s → EachLeads v s ts
    → EachLeads v s us
    → ((name : List ℕ) → begins_with (delta_folder job) name ≡ true
    → delta_at job v s ts name ≡ delta_at job v s us name) → ts ≡ us
same_later job v s [] [] proper et eu alike = refl
same_later job v s [] (u ∷ us) proper et eu alike = absurd (
    let never : None ≡ Some (delta_spelling v s u) =
    alike (delta_name job u.run) (change_below job u.run) ∙ first_change job v s u us in cc)
same_later job v s (t ∷ ts) [] proper et eu alike = absurd (
    let never : None ≡ Some (delta_spelling v s t) =
    sym (alike (delta_name job t.run) (change_below job t.run)) ∙ first_change job v s t ts in cc)
same_later job v s (t ∷ ts) (u ∷ us) proper et eu alike =
    let run : t.run ≡ u.run = et.0.follows.run ∙ sym eu.0.follows.run in
    let here = alike (delta_name job t.run) (change_below job t.run) in
    let there : delta_at job v s (u ∷ us) (delta_name job t.run) ≡ Some (delta_spelling v s u) =
    ap (λ n. delta_at job v s (u ∷ us) (delta_name job n)) run ∙ first_change job v s u us in
    let text : delta_spelling v s t ≡ delta_spelling v s u =
    same_Some _ _ (sym (first_change job v s t ts) ∙ here ∙ there) in
    let same : t ≡ u =
    one_change v s (delta_spelling v s t) t u proper (record { spelled = refl; leads = et.0 })
    (record { spelled = text; leads = eu.0 }) in
    let eachu : EachLeads v t us = subst (λ w. EachLeads v w us) (sym same) eu.1 in
    let rest = same_later job v t ts us et.0.proper et.1 eachu
    (λ name below. elim
    (bytes_eq name (delta_name job t.run)) as
    (λ b. bytes_eq name (delta_name job t.run) ≡ b → delta_at job v t ts name ≡ delta_at job v t us name) [
      | true ↦ λ e.
          let is = same_name name (delta_name job t.run) e in
          ap (delta_at job v t ts) is ∙ no_own_text job v t ts et.1 et.0.proper.run
          ∙ sym (ap (delta_at job v t us) is ∙ no_own_text job v t us eachu et.0.proper.run)
      | false ↦ λ e.
          ap (λ b. cond b (Some (delta_spelling v s t)) (delta_at job v t ts name)) (sym e)
          ∙ alike name below
          ∙ ap (λ n. cond (bytes_eq name (delta_name job n)) (Some (delta_spelling v s u))
          (delta_at job v u us name)) (sym run)
          ∙ ap (λ b. cond b (Some (delta_spelling v s u)) (delta_at job v u us name)) e
          ∙ ap (λ (w : State). delta_at job v w us name) (sym same)
    ] refl) in
    λ i. same i ∷ rest i

same_kept : (job : List ℕ) (v w : Version) (s t : State) (ts us : List State) → v ≡ w → s ≡ t → Proper s
    → EachLeads v s ts → EachLeads w t us
    → ((name : List ℕ) → begins_with (delta_folder job) name ≡ true
    → delta_at job v s ts name ≡ delta_at job w t us name) → ts ≡ us
same_kept job v w s t ts us ev es proper et eu alike =
    same_later job v s ts us proper et
    (subst (λ x. EachLeads v x us) (sym es) (subst (λ x. EachLeads x t us) (sym ev) eu))
    (λ name below. alike name below ∙ ap (λ x. delta_at job x t us name) (sym ev)
    ∙ ap (λ (x : State). delta_at job v x us name) (sym es))

pub keeps_one : KeepsOne
keeps_one job m None None h g = refl
keeps_one job m None (Some l) h g =
    absurd (let never : None ≡ Some (state_spelling l.version l.base) = sym h.base ∙ g.0.base in cc)
keeps_one job m (Some k) None h g =
    absurd (let never : None ≡ Some (state_spelling k.version k.base) = sym g.base ∙ h.0.base in cc)
keeps_one job m (Some k) (Some l) h g =
    let text : state_spelling k.version k.base ≡ state_spelling l.version l.base =
    same_Some _ _ (sym h.0.base ∙ g.0.base) in
    let one = one_spelling k.version l.version (state_spelling k.version k.base) k.base l.base
    (record { spelled = refl; fits = h.1.fits; proper = h.1.base })
    (record { spelled = text; fits = g.1.fits; proper = g.1.base }) in
    let later = same_kept job k.version l.version k.base l.base k.later l.later one.0 one.1 h.1.base h.1.later
    g.1.later
    (λ name below. sym (h.0.deltas name below) ∙ g.0.deltas name below) in
    λ i. Some (record { version = one.0 i; base = one.1 i; later = later i })
