-- Groups that are committed one after the other.
use Rattle.std.proofs.Common.{◌≡◌, inl, inr, ⊎_elim, ℕ, List, [], ◌∷◌, ◌++◌, refl, sym, ap, subst, ◌∙◌, Some, None}
use Rattle.std.proofs.Common.{Option, option_map, cond, true, false, length, append-nil}
use Rattle.std.specs.List.{Contains}
use Rattle.gob_device.specs.Disk.{Files}
use Rattle.gob_device.specs.Supply.{Held}
use Rattle.gob_meaning.specs.Job.{Job}
use Rattle.gob_ledger.specs.State.{State}
use Rattle.gob_ledger.specs.Next.{Judged}
use Rattle.gob_ledger.specs.Delta.{Kept, KeepsAs, base_alone, kept_next, last_state, state_of, wants_whole}
use Rattle.gob_ledger.specs.Spelling.{version_number}
use Rattle.gob_ledger.proofs.Members.{none_in}
use Rattle.gob_ledger.proofs.OneState.{keeps_one}
use Rattle.gob_recovery.proofs.Settled.{staged_free}
use Rattle.gob_history.specs.Sound.{Stores}
use Rattle.gob_history.specs.Runs.{GroupsLeft, PutsIn, after_group, after_groups, done_in, kept_after, kept_after_group}
use Rattle.gob_history.specs.Runs.{kept_where, next_of_group, run_groups, stored_where}
use Rattle.gob_history.specs.Laws.{BeginsWith, Lasting, LeftAlong}
use Rattle.gob_history.proofs.Composes.{leave_one_more}
use Rattle.gob_commit.specs.Done.{EndsWith}
use Rattle.gob_commit.specs.Laws.{AllDoneIsTheRun, DoneGoesAlong, NothingIsDoneAtFirst, OneMoreIsDone}
use Rattle.gob_commit.specs.Laws.{StagedMapsSettleAlike, UncommittedChangesNothing}

-- ---- what groups keep

pub kept_more : (job : Job) (before : List (List Judged)) (g : List Judged) (k : Option Kept) →
    kept_after job k (before ++ g ∷ []) ≡ kept_after_group job (kept_after job k before) g
kept_more job [] g k = refl
kept_more job (h ∷ hs) g k = kept_more job hs g (kept_after_group job k h)

last_pushed : (s : State) (ts : List State) (t : State) → last_state s (ts ++ t ∷ []) ≡ t
last_pushed s [] t = refl
last_pushed s (u ∷ ts) t = last_pushed u ts t

pub next_state_kept : (k : Option Kept) (t : State) → state_of (kept_next k t) ≡ t
next_state_kept None t = refl
next_state_kept (Some k) t =
    elim (wants_whole (version_number k.version) (length k.later) t) as
    (λ v. state_of (cond v (base_alone t) (record k { later = k.later ++ t ∷ [] })) ≡ t) [
      | true ↦ refl
      | false ↦ last_pushed k.base k.later t
    ]

state_kept : (job : Job) (before : List (List Judged)) (k : Option Kept) →
    option_map state_of (kept_after job k before) ≡ after_groups job (option_map state_of k) before
state_kept job [] k = refl
state_kept job (g ∷ gs) k = state_kept job gs (kept_after_group job k g) ∙ ap (λ o. after_groups job o gs) (one g)
  where
    by : (js : List Judged) (t : State) → option_map state_of (kept_where k (kept_next k t) js)
        ≡ stored_where (option_map state_of k) t js
    by [] t = refl
    by (j ∷ js) t = ap Some (next_state_kept k t)

    one : (h : List Judged) → option_map state_of (kept_after_group job k h) ≡ after_group job (option_map state_of k) h
    one h = by (done_in job h) (next_of_group job (option_map state_of k) h)

-- ---- lists of maps

begins_still : (m n : Files) (maps : List Files) → BeginsWith m maps → BeginsWith m (maps ++ n ∷ [])
begins_still m n [] h = absurd h
begins_still m n (k ∷ ks) h = h

ends_there : (n : Files) (maps : List Files) → EndsWith n (maps ++ n ∷ [])
ends_there n [] = refl
ends_there n (m ∷ []) = refl
ends_there n (m ∷ k ∷ ks) = ends_there n (k ∷ ks)

along_more : (job : Job) (held : Held) (before : List (List Judged)) (o : Option State) (maps : List Files)
    (last n : Files)
    (g : List Judged) → LeftAlong job held o before maps → EndsWith last maps
    → GroupsLeft job held last (after_groups job o before) (g ∷ []) n → Lasting last n
    → LeftAlong job held o (before ++ g ∷ []) (maps ++ n ∷ [])
along_more job held [] o [] last n g along ends left lasts = absurd along
along_more job held [] o (m ∷ []) last n g along ends left lasts = (
  subst (λ l. GroupsLeft job held l o (g ∷ []) n) ends left,
  subst (λ l. Lasting l n) ends lasts,
  tt,
)
along_more job held [] o (m ∷ k ∷ ks) last n g along ends left lasts = absurd along
along_more job held (h ∷ hs) o [] last n g along ends left lasts = absurd along
along_more job held (h ∷ hs) o (m ∷ []) last n g along ends left lasts = absurd along
along_more job held (h ∷ hs) o (m ∷ k ∷ ks) last n g along ends left lasts = (
  along.0,
  along.1,
  along_more job held hs (after_group job o h) (k ∷ ks) last n g along.2 ends left lasts,
)

-- ---- the laws

puts_nothing : (job : Job) (held : Held) (settled : Files) → PutsIn job held [] settled settled
puts_nothing job held settled name content p = (
  λ here. inr (here, λ other u. none_in u.unit u.of_units),
  λ either. ⊎_elim (λ u. none_in u.unit u.of_units) (λ x. x.0) either,
)

pub nothing_first : NothingIsDoneAtFirst
nothing_first job held o settled is_settled stores = record {
  begins = refl;
  ends = refl;
  along = tt;
  left = record { stored = stores; published = puts_nothing job held settled; others = λ name p q. refl };
  keeps = λ k h. h;
  closed = is_settled;
}

pub one_more : OneMoreIsDone
one_more job held o settled last n k before group maps keeps stored d apart c =
    let same : option_map state_of (kept_after job k before) ≡ after_groups job o before =
    state_kept job before k ∙ ap (λ p. after_groups job p before) stored in
    let left : GroupsLeft job held last (after_groups job o before) (group ∷ []) n =
    subst (λ p. GroupsLeft job held last p (group ∷ []) n) same c.left in
    record {
      begins = begins_still settled n maps d.begins;
      ends = ends_there n maps;
      along = along_more job held before o maps last n group d.along d.ends left c.lasting;
      left = leave_one_more job held settled last n o before group apart d.left left;
      keeps = λ l h. subst (λ p. KeepsAs job.name n p)
          (ap (λ j. kept_after_group job (kept_after job j before) group) (keeps_one job.name settled k l keeps h)
          ∙ sym (kept_more job before group l)) c.keeps;
      closed = c.settled;
    }

left_alone : (job : Job) (held : Held) (o : Option State) (m : Files) (group : List Judged) → done_in job group ≡ [] →
    Stores job.name m o → GroupsLeft job held m o (group ∷ []) m
left_alone job held o m group none stores = record {
  stored = subst (λ p. Stores job.name m p) (sym (ap (stored_where o (next_of_group job o group)) none)) stores;
  published = subst (λ js. PutsIn job held js m m) (sym (append-nil (done_in job group) ∙ none))
      (puts_nothing job held m);
  others = λ name p q. refl;
}

pub uncommitted : UncommittedChangesNothing
uncommitted job held o settled last before group maps none d =
    let left : GroupsLeft job held last (after_groups job o before) (group ∷ []) last =
    left_alone job held (after_groups job o before) last group none d.left.stored in
    record {
      begins = begins_still settled last maps d.begins;
      ends = ends_there last maps;
      along = along_more job held before o maps last last group d.along d.ends left (λ name. inl refl);
      left = leave_one_more job held settled last last o before group
          (λ name content other u v. none_in v.unit (subst (λ js. Contains js v.unit) none v.of_units)) d.left left;
      keeps = λ k h. subst (λ p. KeepsAs job.name last p)
          (sym (kept_more job before group k
          ∙ ap (kept_where (kept_after job k before)
          (kept_next (kept_after job k before) (next_of_group job (option_map state_of (kept_after job k before))
          group))) none))
          (d.keeps k h);
      closed = d.closed;
    }

pub staged_alike : StagedMapsSettleAlike
staged_alike job settled [] is_settled each = tt
staged_alike job settled (m ∷ ms) is_settled each =
    ((staged_free job settled m is_settled each.0).1, staged_alike job settled ms is_settled each.1)

stores_one : (job : List ℕ) (m : Files) (o p : Option State) → Stores job m o → Stores job m p → o ≡ p
stores_one job m o p (k, keeps, is) (l, holds, shows) =
    sym is ∙ ap (option_map state_of) (keeps_one job m k l keeps holds) ∙ shows

pub goes_along : DoneGoesAlong
goes_along job held failing m settled last o before rest maps added settles stores d groups rises = record {
  settles = settles;
  firsts = maps;
  begins = d.begins;
  along = λ p h. subst
      (λ q. (b : List (List Judged)) × (r : List (List Judged)) × (run_groups job held failing q ≡ b ++ r)
      × LeftAlong job held q b maps)
      (stores_one job.name settled o p stores h) (before, rest, groups, d.along);
  rises = rises;
}

pub all_done : AllDoneIsTheRun
all_done job held failing settled last o maps d = (d.left, λ k h. d.keeps k h)
