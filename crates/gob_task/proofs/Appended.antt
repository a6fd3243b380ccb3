-- Appends to an attempt's files, one after the other.
use Rattle.std.proofs.Common.{◌≡◌, ℕ, ◌≤◌, Bool, true, List, [], ◌∷◌, ◌++◌, map, refl, sym, ap, subst, ◌∙◌, IfSome}
use Rattle.std.proofs.Common.{arith, option_map, None, Some}
use Rattle.std.specs.declared.cmp.Ordering.{Ordering}
use Rattle.std.specs.declared.cmp.Ordering.TheVariants.{Less, Equal, Greater}
use Rattle.std.specs.declared.option.Option.{Option}
use Rattle.std.specs.List.{list_all}
use Rattle.std.proofs.lemmas.Bool.{and_from, and_parts}
use Rattle.std.proofs.lemmas.List.{map-append}
use Rattle.std.proofs.lemmas.List.Folds.{list_all-append}
use Rattle.gob_bytes.specs.Tables.{Table, name_cmp, names_of}
use Rattle.gob_device.specs.Disk.{Along, Both, Disk}
use Rattle.gob_device.proofs.Trail.{along_nothing, along_then, both_same, both_then}
use Rattle.gob_recovery.specs.Commits.{OnlyBelow}
use Rattle.gob_recovery.specs.Sequence.{is_file_name}
use Rattle.gob_stage.specs.Attempt.{AreThere, AttemptValue, HoldsStaged, after_begin, with_appended, with_target}
use Rattle.gob_stage.specs.Stages.{HoldsMore, after_staging}
use Rattle.gob_stage.proofs.Names.{names_with}
use Rattle.gob_task.specs.Staging.{Appended, Appends, HoldsAppends, after_appends, after_stagings, with_appends}

after_both : (es fs : Appends) (a : AttemptValue) → after_appends (es ++ fs) a ≡ after_appends fs (after_appends es a)
unfolding after_appends
after_both [] fs a = refl
after_both (e ∷ es) fs a = after_both es fs (after_begin e.0 a)

with_both : (es fs : Appends) (contents : Table (List ℕ))
    → with_appends (es ++ fs) contents ≡ with_appends fs (with_appends es contents)
unfolding with_appends
with_both [] fs contents = refl
with_both (e ∷ es) fs contents = with_both es fs (with_appended e.0 e.1 contents)

pub after_job : (es : Appends) (a : AttemptValue) → (after_appends es a).job ≡ a.job
unfolding after_appends
after_job [] a = refl
after_job (e ∷ es) a = after_job es (after_begin e.0 a)

pub after_folder : (es : Appends) (a : AttemptValue) → (after_appends es a).folder ≡ a.folder
unfolding after_appends
after_folder [] a = refl
after_folder (e ∷ es) a = after_folder es (after_begin e.0 a)

-- the names of the contents are those of the targets that are begun
pub names_after : (es : Appends) (a : AttemptValue) (contents : Table (List ℕ)) → names_of contents ≡ a.begun
    → names_of (with_appends es contents) ≡ (after_appends es a).begun
unfolding after_appends with_appends
names_after [] a contents is = is
names_after (e ∷ es) a contents is = names_after es (after_begin e.0 a) (with_appended e.0 e.1 contents)
    (names_with contents e.0 _ ∙ ap (λ ns. with_target ns e.0) is)

all_with : (p : List ℕ → Bool) (ts : List (List ℕ)) (t : List ℕ) → list_all p ts ≡ true → p t ≡ true
    → list_all p (with_target ts t) ≡ true
all_with p [] t all one = and_from (p t) true one refl
all_with p (u ∷ ts) t all one = cases (name_cmp t u) refl (all_with p ts t parts.1 one)
  where
    parts : (p u ≡ true) × (list_all p ts ≡ true)
    parts = and_parts (p u) (list_all p ts) all

    cases : (o : Ordering) → name_cmp t u ≡ o → list_all p (with_target ts t) ≡ true
        → list_all p (with_target (u ∷ ts) t) ≡ true
    cases Less is later = rw is (and_from (p t) (list_all p (u ∷ ts)) one all)
    cases Equal is later = rw is (and_from (p t) (list_all p ts) one parts.1)
    cases Greater is later = rw is (and_from (p u) (list_all p (with_target ts t)) parts.0 later)

pub spelled_after : (es : Appends) (a : AttemptValue) → list_all is_file_name (map (λ e. e.0) es) ≡ true
    → list_all is_file_name a.begun ≡ true → list_all is_file_name (after_appends es a).begun ≡ true
unfolding after_appends
spelled_after [] a spelled all = all
spelled_after (e ∷ es) a spelled all =
    let parts = and_parts (is_file_name e.0) (list_all is_file_name (map (λ e. e.0) es)) spelled in
    spelled_after es (after_begin e.0 a) parts.1 (all_with is_file_name a.begun e.0 all parts.0)

-- ---- calls

mapped_nothing : (a : AttemptValue) (o : Option Disk) → o ≡ option_map (after_stagings [] a) o
unfolding after_stagings
mapped_nothing a None = refl
mapped_nothing a (Some d) = refl

mapped_one : (a : AttemptValue) (name bytes : List ℕ) (o : Option Disk)
    → option_map (after_staging a name bytes) o ≡ option_map (after_stagings ((name, bytes) ∷ []) a) o
unfolding after_stagings
mapped_one a name bytes None = refl
mapped_one a name bytes (Some d) = refl

staged_both : (es fs : Appends) (a : AttemptValue) (d : Disk)
    → after_stagings (es ++ fs) a d ≡ after_stagings fs (after_appends es a) (after_stagings es a d)
unfolding after_appends after_stagings
staged_both [] fs a d = refl
staged_both (e ∷ es) fs a d = staged_both es fs (after_begin e.0 a) (after_staging a e.0 e.1 d)

mapped_both : (es fs : Appends) (a : AttemptValue) (o : Option Disk)
    → option_map (after_stagings fs (after_appends es a)) (option_map (after_stagings es a) o)
    ≡ option_map (after_stagings (es ++ fs) a) o
mapped_both es fs a None = refl
mapped_both es fs a (Some d) = ap Some (sym (staged_both es fs a d))

pub append_nothing : (a : AttemptValue) (o : Option Disk) → Appended [] a a o o
unfolding after_appends with_appends
append_nothing a o = record {
  attempt = refl;
  calls = mapped_nothing a o;
  spelled = refl;
  holds = both_same (HoldsAppends [] a) (λ d contents held. held) o;
  there = λ there. there;
}

pub append_one : (a b : AttemptValue) (name bytes : List ℕ) (old new : Option Disk) → is_file_name name ≡ true
    → b ≡ after_begin name a → new ≡ option_map (after_staging a name bytes) old
    → Both (HoldsMore a name bytes) old new → IfSome new (λ d. AreThere b d.files)
    → Appended ((name, bytes) ∷ []) a b old new
unfolding after_appends with_appends
append_one a b name bytes old new named is called holds there = record {
  attempt = is;
  calls = called ∙ mapped_one a name bytes old;
  spelled = and_from (is_file_name name) true named refl;
  holds = holds;
  there = λ _. there;
}

pub appended_as : {es fs : Appends} {a b : AttemptValue} {old new : Option Disk} → es ≡ fs → Appended es a b old new
    → Appended fs a b old new
appended_as {es} {fs} {a} {b} {old} {new} same = subst (λ gs. Appended gs a b old new) same

append_then : (es fs : Appends) (a b c : AttemptValue) (old mid new : Option Disk) → Appended es a b old mid
    → Appended fs b c mid new → Appended (es ++ fs) a c old new
append_then es fs a b c old mid new first second = record {
  attempt = second.attempt ∙ same;
  calls = second.calls
      ∙ (ap (λ v. option_map (after_stagings fs v) mid) first.attempt
      ∙ (ap (option_map (after_stagings fs (after_appends es a))) first.calls ∙ mapped_both es fs a old));
  spelled = subst (λ ns. list_all is_file_name ns ≡ true) (sym (map-append (λ (e : List ℕ × List ℕ). e.0) es fs))
      (list_all-append is_file_name (map (λ e. e.0) es) (map (λ e. e.0) fs)
      ∙ and_from (list_all is_file_name (map (λ e. e.0) es)) (list_all is_file_name (map (λ e. e.0) fs)) first.spelled
      second.spelled);
  holds = both_then (HoldsAppends es a) (HoldsAppends fs b) (HoldsAppends (es ++ fs) a) joins old mid new first.holds
      second.holds;
  there = λ there. second.there (first.there there);
}
  where
    same : after_appends fs b ≡ after_appends (es ++ fs) a
    same = ap (after_appends fs) first.attempt ∙ sym (after_both es fs a)

    joins : (d e k : Disk) → HoldsAppends es a d e → HoldsAppends fs b e k → HoldsAppends (es ++ fs) a d k
    joins d e k one two contents held =
        let mid_held : HoldsStaged b (with_appends es contents) e.files =
        subst (λ v. HoldsStaged v (with_appends es contents) e.files) (sym first.attempt) (one contents held) in
        subst (λ v. HoldsStaged v (with_appends (es ++ fs) contents) k.files) same
        (subst (λ c. HoldsStaged (after_appends fs b) c k.files) (sym (with_both es fs contents))
        (two (with_appends es contents) mid_held))

-- ---- calls in a row

-- so many appends were done, below the attempt's folder alone
pub record SoFar (es : Appends) (a b : AttemptValue) (old now : Option Disk) (before since : ℕ) : Type 0 where
  pub appended : Appended es a b old now
  pub below : Along (OnlyBelow a.folder) old now
  pub later : before ≤ since

pub so_far_none : (a : AttemptValue) (o : Option Disk) (faults : ℕ) → SoFar [] a a o o faults faults
so_far_none a o faults = record {
  appended = append_nothing a o;
  below = along_nothing (OnlyBelow a.folder) o;
  later = omega arith;
}

pub so_far_below : (es : Appends) (a b : AttemptValue) (old now new : Option Disk) (before since : ℕ)
    → SoFar es a b old now before since → Along (OnlyBelow b.folder) now new → Along (OnlyBelow a.folder) old new
so_far_below es a b old now new before since s below =
    along_then (OnlyBelow a.folder) (λ m n k one two name out. two name out ∙ one name out) s.below
    (subst (λ folder. Along (OnlyBelow folder) now new) (ap (λ v. v.folder) s.appended.attempt ∙ after_folder es a)
    below)

pub so_far_more : {es fs gs : Appends} {a b c : AttemptValue} {old now new : Option Disk} {before since after : ℕ}
    → gs ≡ es ++ fs → SoFar es a b old now before since → Appended fs b c now new → Along (OnlyBelow b.folder) now new
    → since ≤ after → SoFar gs a c old new before after
so_far_more {es} {fs} {gs} {a} {b} {c} {old} {now} {new} {before} {since} {after} is s appended below later = record {
  appended = subst (λ g. Appended g a c old new) (sym is) (append_then es fs a b c old now new s.appended appended);
  below = so_far_below es a b old now new before since s below;
  later = omega (arith, s.later, later);
}
