-- The groups of units share no partition, and each has all units of its partitions.
use Rattle.std.proofs.Common.{◌≡◌, ⊎_elim, ℕ, Bool, true, false, cond, List, [], ◌∷◌, map, refl, sym, ap, subst, ◌∙◌}
use Rattle.std.proofs.Common.{Some, None, unwrap_or}
use Rattle.std.specs.declared.option.Option.{Option}
use Rattle.std.specs.List.{Contains, filter}
use Rattle.std.specs.Str.{bytes_eq}
use Rattle.gob_bytes.proofs.Tables.{at-with_name, rising-with_name, rising_tail, none_below, at_from_member}
use Rattle.gob_bytes.proofs.Tables.{member_from_at, name_itself, same_name, two_names}
use Rattle.gob_bytes.specs.Tables.{Table, at_name, names_of, IsInByteOrder}
use Rattle.gob_plan.specs.declared.plan.CommitScope.TheVariants as scope
use Rattle.gob_ledger.specs.Next.{Judged}
use Rattle.gob_ledger.specs.Groups.{dataset_of, by_dataset, groups_of}
use Rattle.gob_ledger.specs.Laws.{EachApart, GroupsAreGrouping}
use Rattle.gob_ledger.proofs.Members.{none_in, first_in, later_in, in_cases, in_filter, filter_in, in_map, map_in}

abbrev dataset : Judged → List ℕ
dataset j = dataset_of j.0.part

abbrev of_dataset : List ℕ → List Judged → List Judged
of_dataset d all = filter (λ j. bytes_eq (dataset j) d) all

in_order : (all : List Judged) → IsInByteOrder (names_of (by_dataset all))
in_order [] = tt
in_order (j ∷ js) = rising-with_name (by_dataset js) (dataset j)
    (j ∷ unwrap_or (at_name (by_dataset js) (dataset j)) []) (in_order js)

here_or : (j : Judged) (js : List Judged) (d : List ℕ) (b : Bool) → bytes_eq d (dataset j) ≡ b
    → unwrap_or (at_name (by_dataset js) (dataset j)) [] ≡ of_dataset (dataset j) js
    → unwrap_or (at_name (by_dataset js) d) [] ≡ of_dataset d js
    → unwrap_or (cond b (Some (j ∷ unwrap_or (at_name (by_dataset js) (dataset j)) [])) (at_name (by_dataset js) d)) []
    ≡ of_dataset d (j ∷ js)
here_or j js d true is own other =
    let same = same_name d (dataset j) is in
    ap (λ (ks : List Judged). j ∷ ks) own
    ∙ (ap (λ (e : List ℕ). j ∷ of_dataset e js) (sym same) ∙ sym
    (ap (λ b. cond b (j ∷ of_dataset d js) (of_dataset d js))
    (subst (λ e. bytes_eq (dataset j) e ≡ true) (sym same) (name_itself (dataset j)))))
here_or j js d false is own other =
    other ∙ sym (ap (λ b. cond b (j ∷ of_dataset d js) (of_dataset d js)) (two_names (dataset j) d (λ same.
    let no : true ≡ false = sym (name_itself d) ∙ (ap (bytes_eq d) (sym same) ∙ is) in cc)))

at_dataset : (all : List Judged) (d : List ℕ) → unwrap_or (at_name (by_dataset all) d) [] ≡ of_dataset d all
at_dataset [] d = refl
at_dataset (j ∷ js) d =
    ap (λ (o : Option (List Judged)). unwrap_or o []) (at-with_name (by_dataset js) (dataset j)
    (j ∷ unwrap_or (at_name (by_dataset js) (dataset j)) []) d)
    ∙ here_or j js d (bytes_eq d (dataset j)) refl (at_dataset js (dataset j)) (at_dataset js d)

some_choice : {A : Type 0} (b : Bool) (x : A) (o : Option A) → ((y : A) × (o ≡ Some y)) → (y : A)
    × (cond b (Some x) o ≡ Some y)
some_choice true x o r = (x, refl)
some_choice false x o r = r

has_dataset : (all : List Judged) (j : Judged) → Contains all j → (g : List Judged)
    × (at_name (by_dataset all) (dataset j) ≡ Some g)
has_dataset [] j h = none_in j h
has_dataset (k ∷ ks) j h =
    let mine = k ∷ unwrap_or (at_name (by_dataset ks) (dataset k)) [] in
    let at = at-with_name (by_dataset ks) (dataset k) mine (dataset j) in
    ⊎_elim
    (λ (e : k ≡ j). (
      mine,
      at ∙ ap (λ b. cond b (Some mine) (at_name (by_dataset ks) (dataset j)))
          (subst (λ (x : Judged). bytes_eq (dataset x) (dataset k) ≡ true) e (name_itself (dataset k))),
    ))
    (λ l. let r = some_choice (bytes_eq (dataset j) (dataset k)) mine (at_name (by_dataset ks) (dataset j))
    (has_dataset ks j l) in (r.0, at ∙ r.1))
    (in_cases k ks j h)

-- groups by their datasets, each with units of its own alone
each_apart : (t : Table (List Judged)) → IsInByteOrder (names_of t)
    → ((e : List ℕ × List Judged) (j : Judged) → Contains t e → Contains e.1 j → dataset j ≡ e.0)
    → EachApart (map (λ e. e.1) t)
each_apart [] rising own = tt
each_apart (e ∷ es) rising own = (
  λ h m. λ j k x y same.
      let f = in_map (λ (z : List ℕ × List Judged). z.1) es h m in
      let mine : dataset j ≡ e.0 = own e j (first_in e es e refl) x in
      let its : dataset k ≡ f.0.0 = own f.0 k (later_in e es f.0 f.1)
      (subst (λ (js : List Judged). Contains js k) (sym f.2) y) in
      let level : f.0.0 ≡ e.0 = sym its ∙ (ap dataset_of (sym same) ∙ mine) in
      let there = at_from_member es f.0.0 f.0.1 (rising_tail e.0 (names_of es) rising) f.1 in
      let no : None ≡ Some f.0.1 = sym (none_below es e.0 rising) ∙ (ap (at_name es) (sym level) ∙ there) in cc,
  each_apart es (rising_tail e.0 (names_of es) rising) (λ d j m x. own d j (later_in e es d m) x),
)

all_kept : (all : List Judged) → filter (λ j. true) all ≡ all
all_kept [] = refl
all_kept (j ∷ js) = ap (λ (ks : List Judged). j ∷ ks) (all_kept js)

pub grouped : GroupsAreGrouping
unfolding groups_of
grouped scope.Job all = record {
  apart = (λ h m. none_in h m, tt);
  each = λ g h. ⊎_elim (λ e. (λ part. true, sym e ∙ sym (all_kept all))) (λ l. none_in g l) (in_cases all [] g h);
  whole = λ j h. (all, first_in all [] all refl, h);
}
grouped scope.Dataset all =
    let t = by_dataset all in
    let is : (e : List ℕ × List Judged) → Contains t e → e.1 ≡ of_dataset e.0 all = λ e h.
    sym (ap (λ (o : Option (List Judged)). unwrap_or o []) (at_from_member t e.0 e.1 (in_order all) h))
    ∙ at_dataset all e.0 in
    record {
      apart = each_apart t (in_order all) (λ e j h m. same_name (dataset j) e.0
          (in_filter (λ k. bytes_eq (dataset k) e.0) all j (subst (λ (js : List Judged). Contains js j) (is e h) m)).1);
      each = λ g h. let f = in_map (λ (e : List ℕ × List Judged). e.1) t g h in
          (λ part. bytes_eq (dataset_of part) f.0.0, sym f.2 ∙ is f.0 f.1);
      whole = λ j h.
          let r = has_dataset all j h in
          let m = member_from_at t (dataset j) r.0 r.1 in (
            r.0,
            map_in (λ (e : List ℕ × List Judged). e.1) t (dataset j, r.0) m,
            subst (λ (js : List Judged). Contains js j) (sym (is (dataset j, r.0) m))
                (filter_in (λ k. bytes_eq (dataset k) (dataset j)) all j h (name_itself (dataset j))),
          );
    }
