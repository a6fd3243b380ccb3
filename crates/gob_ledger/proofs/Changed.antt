-- What the change to the next state writes over what is kept keeps that state behind it.
use Rattle.std.proofs.Common.{◌≡◌, ◌≢◌, ◌⊎◌, inl, inr, ⊎_elim, ℕ, ◌+◌, ◌^◌, ◌<◌, Bool, true, false, cond, nat_eq}
use Rattle.std.proofs.Common.{nat_le, List, [], ◌∷◌, ◌++◌, map, length, refl, sym, ap, subst, ◌∙◌, Some, None}
use Rattle.std.proofs.Common.{option_map, arith}
use Rattle.std.specs.List.{Contains}
use Rattle.std.specs.Str.{bytes_eq}
use Rattle.std.proofs.lemmas.Bool.{or_right, true≢false}
use Rattle.gob_bytes.proofs.Tables.{name_itself, same_name, two_names}
use Rattle.gob_bytes.proofs.Paths.{is_state_file}
use Rattle.gob_bytes.specs.Paths.{begins_with, state_name, delta_folder, delta_name, keeps_state}
use Rattle.gob_device.specs.Disk.{Files, contents_at}
use Rattle.gob_ledger.specs.State.{State}
use Rattle.gob_ledger.specs.Spelling.{Version, version_1, version_2, version_number, Proper}
use Rattle.gob_ledger.specs.Delta.{Kept, Keeps, ProperKept, EachLeads, Change, change_of, delta_at, delta_spelling}
use Rattle.gob_ledger.specs.Delta.{earlier_changes, base_alone, last_state, small_change, state_of, wants_whole}
use Rattle.gob_ledger.specs.Delta.{whole_change}
use Rattle.gob_ledger.specs.SpellingLaws.{HasChanged, ChangeKeepsNext}
use Rattle.gob_ledger.proofs.Deciding.{same_text, is_member}
use Rattle.gob_ledger.proofs.DeltaNames.{change_below, state_not_below, same_number_named}
use Rattle.gob_ledger.proofs.Keeping.{kept_proper, changes_numbered, numbered, not_last}
use Rattle.gob_ledger.proofs.Members.{none_in, first_in, later_in}

-- ---- the texts of changes with one more

pub push_other : (job : List ℕ) (v : Version) (s t : State) (ts : List State) (name : List ℕ)
    → bytes_eq name (delta_name job t.run) ≡ false
    → delta_at job v s (ts ++ t ∷ []) name ≡ delta_at job v s ts name
push_other job v s t [] name e = ap (λ b. cond b (Some (delta_spelling v s t)) None) e
push_other job v s t (u ∷ us) name e =
    ap (λ z. cond (bytes_eq name (delta_name job u.run)) (Some (delta_spelling v s u)) z)
    (push_other job v u t us name e)

pub push_here : (job : List ℕ) (v : Version) (s t : State) (ts : List State) → EachLeads v s ts
    → t.run ≡ (last_state s ts).run + 1 → t.run < 2 ^ 64
    → delta_at job v s (ts ++ t ∷ []) (delta_name job t.run) ≡ Some (delta_spelling v (last_state s ts) t)
push_here job v s t [] each run small =
    ap (λ b. cond b (Some (delta_spelling v s t)) None) (name_itself (delta_name job t.run))
push_here job v s t (u ∷ us) each run small =
    let n = (numbered job v u us each.1).0 in
    let apart : delta_name job t.run ≢ delta_name job u.run = λ e.
    let same = same_number_named job t.run u.run small each.0.proper.run e in omega (arith, n, run, same) in
    ap (λ b. cond b (Some (delta_spelling v s u)) (delta_at job v u (us ++ t ∷ []) (delta_name job t.run)))
    (two_names (delta_name job t.run) (delta_name job u.run) apart)
    ∙ push_here job v u t us each.1 run small

-- a name has a change's text only where it is a change's
pub some_or_none : (job : List ℕ) (v : Version) (s : State) (ts : List State) (name : List ℕ)
    → Contains (map (λ (t : State). delta_name job t.run) ts) name ⊎ (delta_at job v s ts name ≡ None)
some_or_none job v s [] name = inr refl
some_or_none job v s (t ∷ ts) name = cases (bytes_eq name (delta_name job t.run)) refl (some_or_none job v t ts name)
  where
    cases : (b : Bool) → bytes_eq name (delta_name job t.run) ≡ b
        → Contains (map (λ (u : State). delta_name job u.run) ts) name ⊎ (delta_at job v t ts name ≡ None)
        → Contains (map (λ (u : State). delta_name job u.run) (t ∷ ts)) name
        ⊎ (cond (bytes_eq name (delta_name job t.run)) (Some (delta_spelling v s t)) (delta_at job v t ts name) ≡ None)
    cases true is later =
        inl (first_in (delta_name job t.run) (map (λ (u : State). delta_name job u.run) ts) name
        (sym (same_name name (delta_name job t.run) is)))
    cases false is (inl h) = inl (later_in (delta_name job t.run) (map (λ (u : State). delta_name job u.run) ts) name h)
    cases false is (inr e) = inr (ap (λ b. cond b (Some (delta_spelling v s t)) (delta_at job v t ts name)) is ∙ e)

-- ---- the files after the change

is_change_file : (job name : List ℕ) → begins_with (delta_folder job) name ≡ true → keeps_state job name ≡ true
is_change_file job name e = or_right (bytes_eq name (state_name job)) (begins_with (delta_folder job) name) e

below_not_state : (job name : List ℕ) → begins_with (delta_folder job) name ≡ true → name ≢ state_name job
below_not_state job name below e =
    true≢false (sym below ∙ (ap (begins_with (delta_folder job)) e ∙ state_not_below job))

whole_keeps : (job : List ℕ) (m n : Files) (rs : List (List ℕ)) (t : State) → HasChanged job (whole_change job rs t) m n
    → ((name : List ℕ) → begins_with (delta_folder job) name ≡ true → Contains rs name ⊎ (contents_at m name ≡ None))
    → Keeps job n (base_alone t)
whole_keeps job m n rs t changed each = record {
  base = changed.target;
  deltas = λ name below. ⊎_elim
      (λ h. changed.removed name h)
      (λ out. changed.others name (is_change_file job name below) (below_not_state job name below) out
      ∙ ⊎_elim (λ h. absurd (out h)) (λ none. none) (each name below))
      (is_member same_text rs name);
}

small_keeps : (job : List ℕ) (m n : Files) (s t : State) (ts : List State) (changes : ℕ)
    → HasChanged job (small_change job (last_state s ts) changes t) m n
    → Keeps job m (record { version = version_2; base = s; later = ts }) → EachLeads version_2 s ts
    → t.run ≡ (last_state s ts).run + 1 → t.run < 2 ^ 64
    → Keeps job n (record { version = version_2; base = s; later = ts ++ t ∷ [] })
small_keeps job m n s t ts changes changed keeps each run small = record {
  base = changed.others (state_name job) (is_state_file job)
      (λ e. below_not_state job (delta_name job t.run) (change_below job t.run) (sym e))
      (λ h. none_in (state_name job) h)
      ∙ keeps.base;
  deltas = λ name below. cases name below (bytes_eq name (delta_name job t.run)) refl;
}
  where
    cases : (name : List ℕ) → begins_with (delta_folder job) name ≡ true → (b : Bool)
        → bytes_eq name (delta_name job t.run) ≡ b
        → contents_at n name ≡ delta_at job version_2 s (ts ++ t ∷ []) name
    cases name below true is =
        let same = same_name name (delta_name job t.run) is in
        ap (contents_at n) same ∙ changed.target ∙ sym (push_here job version_2 s t ts each run small)
        ∙ ap (delta_at job version_2 s (ts ++ t ∷ [])) (sym same)
    cases name below false is =
        changed.others name (is_change_file job name below)
        (λ e. true≢false (sym (name_itself name) ∙ (ap (bytes_eq name) e ∙ is))) (λ h. none_in name h)
        ∙ keeps.deltas name below ∙ sym (push_other job version_2 s t ts name is)

-- ---- the change to the next state

either_keeps : (job : List ℕ) (m n : Files) (v : Version) (s t : State) (ts : List State)
    → Keeps job m (record { version = v; base = s; later = ts })
    → ProperKept (record { version = v; base = s; later = ts }) → Proper t
    → (wants_whole (version_number v) (length ts) t ≡ false → t.run ≡ (last_state s ts).run + 1)
    → (b : Bool) → wants_whole (version_number v) (length ts) t ≡ b
    → HasChanged job
    (cond b (whole_change job (earlier_changes job (last_state s ts).run (length ts)) t)
    (small_change job (last_state s ts) (length ts) t)) m n
    → Keeps job n (cond b (base_alone t) (record { version = v; base = s; later = ts ++ t ∷ [] }))
either_keeps job m n v s t ts keeps proper own run true is changed =
    whole_keeps job m n (earlier_changes job (last_state s ts).run (length ts)) t changed
    (λ name below. ⊎_elim
    (λ h. inl (subst (λ (rs : List (List ℕ)). Contains rs name)
    (changes_numbered job (record { version = v; base = s; later = ts }) proper).1 h))
    (λ none. inr (keeps.deltas name below ∙ none))
    (some_or_none job v s ts name))
either_keeps job m n version_1 s t ts keeps proper own run false is changed = absurd (true≢false is)
either_keeps job m n version_2 s t ts keeps proper own run false is changed =
    small_keeps job m n s t ts (length ts) changed keeps proper.later (run is) own.run

change_is : (job : List ℕ) (k : Kept) (t : State)
    → change_of job (Some (state_of k)) (length k.later) (version_number k.version) t
    ≡ cond (wants_whole (version_number k.version) (length k.later) t)
    (whole_change job (earlier_changes job (state_of k).run (length k.later)) t)
    (small_change job (state_of k) (length k.later) t)
unfolding change_of
change_is job k t = refl

first_change_is : (job : List ℕ) (t : State) → change_of job None 0 2 t ≡ whole_change job [] t
unfolding change_of
first_change_is job t = refl

pub change_keeps : ChangeKeepsNext
change_keeps job m n None t keeps own follows changed = (
  whole_keeps job m n [] t (subst (λ (c : Change). HasChanged job c m n) (first_change_is job t) changed)
      (λ name below. inr (keeps.deltas name below)),
  (kept_proper None t (λ l e. absurd (let never : None ≡ Some l = e in cc)) own).0,
)
change_keeps job m n (Some k) t keeps own follows changed = (
  either_keeps job m n k.version k.base t k.later keeps.0 keeps.1 own
      (λ e. (follows (state_of k) refl
      (not_last t (nat_eq (version_number k.version) 1) (nat_le 64 (length k.later)) e)).run)
      (wants_whole (version_number k.version) (length k.later) t) refl
      (subst (λ (c : Change). HasChanged job c m n) (change_is job k t) changed),
  (kept_proper (Some k) t
      (λ l e. (subst ProperKept (same l e) keeps.1, λ far. follows (state_of l) (ap (option_map state_of) e) far))
      own).0,
)
  where
    same : (l : Kept) → Some k ≡ Some l → k ≡ l
    same l e = cc
