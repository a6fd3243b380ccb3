-- What a run leaves group by group is what it leaves, and its maps go along its states.
use Rattle.std.proofs.Common.{◌≡◌, ◌⊎◌, ◌↔◌, inl, inr, ⊎_elim, ℕ, List, [], ◌∷◌, ◌++◌, refl, sym, ap, subst, ◌∙◌, Some}
use Rattle.std.proofs.Common.{append_assoc}
use Rattle.std.specs.declared.option.Option.{Option}
use Rattle.std.specs.List.{Contains, flat_map}
use Rattle.gob_device.specs.Disk.{contents_at, Rises}
use Rattle.gob_device.specs.Supply.{Held}
use Rattle.gob_device.proofs.Trail.{rises_more}
use Rattle.gob_meaning.specs.Job.{Job}
use Rattle.gob_ledger.specs.State.{State}
use Rattle.gob_ledger.specs.Next.{Judged}
use Rattle.gob_ledger.specs.Expected.{IsPublished}
use Rattle.gob_ledger.proofs.Members.{none_in, in_cases, first_in, later_in}
use Rattle.gob_history.specs.Sound.{AllRecoverTo, Stores}
use Rattle.gob_history.specs.Runs.{after_group, after_groups, chain_from, done_in}
use Rattle.gob_history.specs.Laws.{GroupsLeaveOneMore, GroupsStayDurable, RunGoesAlong}
use Rattle.gob_history.proofs.Steadied.{steadied, quiet_sequence}
use Rattle.gob_history.proofs.Rising.{rises_stand}

pub after_more : (job : Job) (before rest : List (List Judged)) (o : Option State)
    → after_groups job o (before ++ rest) ≡ after_groups job (after_groups job o before) rest
after_more job [] rest o = refl
after_more job (g ∷ gs) rest o = after_more job gs rest (after_group job o g)

done_more : (job : Job) (before rest : List (List Judged)) → flat_map (done_in job) (before ++ rest) ≡ flat_map
    (done_in job) before ++ flat_map (done_in job) rest
done_more job [] rest = refl
done_more job (g ∷ gs) rest = ap (λ z. done_in job g ++ z) (done_more job gs rest)
    ∙ sym (append_assoc (done_in job g) (flat_map (done_in job) gs) (flat_map (done_in job) rest))

pub in_either : (xs ys : List Judged) (j : Judged) → Contains (xs ++ ys) j → Contains xs j ⊎ Contains ys j
in_either [] ys j h = inr h
in_either (x ∷ xs) ys j h = ⊎_elim (λ e. inl (first_in x xs j e))
    (λ k. ⊎_elim (λ l. inl (later_in x xs j l)) (λ l. inr l) (in_either xs ys j k)) (in_cases x (xs ++ ys) j h)

pub in_front : (xs ys : List Judged) (j : Judged) → Contains xs j → Contains (xs ++ ys) j
in_front [] ys j h = none_in j h
in_front (x ∷ xs) ys j h = ⊎_elim (λ e. first_in x (xs ++ ys) j e) (λ k. later_in x (xs ++ ys) j (in_front xs ys j k))
    (in_cases x xs j h)

pub in_back : (xs ys : List Judged) (j : Judged) → Contains ys j → Contains (xs ++ ys) j
in_back [] ys j h = h
in_back (x ∷ xs) ys j h = later_in x (xs ++ ys) j (in_back xs ys j h)

abbrev Makes : Job → Held → List Judged → List ℕ → List ℕ → Type 0
Makes job held done name content = IsPublished job.name job.plan held done name content

makes_in : (job : Job) (held : Held) (some more : List Judged) (name content : List ℕ)
    → ((j : Judged) → Contains some j → Contains more j) → Makes job held some name content
    → Makes job held more name content
makes_in job held some more name content into u = record {
  unit = u.unit;
  of_units = into u.unit u.of_units;
  path =
      u.path;
  made = u.made;
  called = u.called;
}

makes_either : (job : Job) (held : Held) (xs ys : List Judged) (name content : List ℕ)
    → Makes job held (xs ++ ys) name content → Makes job held xs name content ⊎ Makes job held ys name content
makes_either job held xs ys name content u = ⊎_elim
    (λ h. inl (record { unit = u.unit; of_units = h; path = u.path; made = u.made; called = u.called }))
    (λ h. inr (record { unit = u.unit; of_units = h; path = u.path; made = u.made; called = u.called }))
    (in_either xs ys u.unit u.of_units)

pub leave_one_more : GroupsLeaveOneMore
leave_one_more job held settled m n o before group apart first second = record {
  stored = subst (λ q. Stores job.name n q) (sym (after_more job before (group ∷ []) o)) second.stored;
  published = λ name content p.
      let d = flat_map (done_in job) before in
      let e = done_in job group in
      let a = first.published name content p in
      let b = second.published name content p in
      let same : flat_map (done_in job) (before ++ group ∷ []) ≡ d ++ (e ++ []) = done_more job before (group ∷ []) in
      subst (λ (js : List Judged). (contents_at n name ≡ Some content) ↔
      (Makes job held js name content ⊎ ((contents_at settled name ≡ Some content)
      × ((other : List ℕ) → Makes job held js name other → ⊥)))) (sym same) (
        λ here. ⊎_elim
            (λ u. inl (makes_in job held (e ++ []) (d ++ (e ++ [])) name content (in_back d (e ++ [])) u))
            (λ x. ⊎_elim
            (λ u. inl (makes_in job held d (d ++ (e ++ [])) name content (in_front d (e ++ [])) u))
            (λ y. inr (y.0, λ other u. ⊎_elim (y.1 other) (x.1 other) (makes_either job held d (e ++ []) name other u)))
            (a.0 x.0))
            (b.0 here),
        λ either. ⊎_elim
            (λ u. ⊎_elim
            (λ v. b.1 (inr (
              a.1 (inl v),
              λ other w. apart name content other v
                  (makes_in job held (e ++ []) e name other (whole e) w),
            )))
            (λ v. b.1 (inl v))
            (makes_either job held d (e ++ []) name content u))
            (λ x. b.1 (inr (
              a.1 (inr (
                x.0,
                λ other v. x.1 other (makes_in job held d (d ++ (e ++ [])) name other
                    (in_front d (e ++ [])) v),
              )),
              λ other w. x.1 other (makes_in job held (e ++ []) (d ++ (e ++ [])) name other (in_back d (e ++ [])) w),
            )))
            either,
      );
  others = λ name p q. second.others name p q ∙ first.others name p q;
}
  where
    whole : (xs : List Judged) (j : Judged) → Contains (xs ++ []) j → Contains xs j
    whole xs j h = ⊎_elim (λ l. l) (λ l. none_in j l) (in_either xs [] j h)

-- ---- the maps of a run

chain_more : (job : Job) (before rest : List (List Judged)) (o : Option State) → (more : List (Option State))
    × (chain_from job o (before ++ rest) ≡ chain_from job o before ++ more)
chain_more job [] [] o = ([], refl)
chain_more job [] (g ∷ gs) o = (chain_from job (after_group job o g) gs, refl)
chain_more job (g ∷ gs) rest o = let r = chain_more job gs rest (after_group job o g) in (r.0, ap (λ z. o ∷ z) r.1)

pub goes_along : GroupsStayDurable → RunGoesAlong
goes_along stay job held failing m settled added tells order r = λ archive o agrees all.
    let s = steadied job.name archive o settled m all r.settles in
    let l = r.along o s.0.stores in
    let steady = stay job archive held settled o failing l.0 l.1 r.firsts tells agrees order s.0 l.2 r.begins l.3 in
    let rises = rises_stand job.name archive (chain_from job o l.0) r.firsts added steady
    (r.rises (quiet_sequence job.name archive o m all)) in
    let more = chain_more job l.0 l.1 o in
    subst (λ os. Rises (AllRecoverTo job.name archive) os added) (sym (ap (chain_from job o) l.2 ∙ more.1))
    (rises_more (AllRecoverTo job.name archive) (chain_from job o l.0) more.0 added rises)
