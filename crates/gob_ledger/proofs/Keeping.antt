-- What is kept after one more commit, and the numbers of the changes.
use Rattle.std.proofs.Common.{◌≡◌, ◌≢◌, ℕ, suc, ◌+◌, ◌-◌, Bool, true, false, cond, ◌||◌, nat_eq, nat_le, List, [], ◌∷◌}
use Rattle.std.proofs.Common.{◌++◌, map, length, refl, sym, ap, ◌∙◌, Some, None, arith}
use Rattle.std.specs.List.{range_with_len}
use Rattle.gob_bytes.specs.Paths.{delta_name}
use Rattle.gob_ledger.specs.State.{State}
use Rattle.gob_ledger.specs.Spelling.{Version, version_1, version_2, version_number, Proper}
use Rattle.gob_ledger.specs.Delta.{ProperKept, EachLeads, LeadsTo, last_state, state_of, base_alone, wants_whole}
use Rattle.gob_ledger.specs.Delta.{last_run}
use Rattle.gob_ledger.specs.Laws.{ChangesAreNumbered, KeptNextIsProper}

last_push : (s t : State) (ts : List State) → last_state s (ts ++ t ∷ []) ≡ t
last_push s t [] = refl
last_push s t (u ∷ us) = last_push u t us

each_push : (s t : State) (ts : List State) → EachLeads version_2 s ts → LeadsTo version_2 (last_state s ts) t
    → EachLeads version_2 s (ts ++ t ∷ [])
each_push s t [] each l = (l, tt)
each_push s t (u ∷ us) each l = (each.0, each_push u t us each.1 l)

pub not_last : (t : State) (a b : Bool) → (a || b || nat_eq t.run last_run) ≡ false → t.run ≢ last_run
not_last t a b e same = whole (ap (λ n. nat_eq n last_run) same) e
  where
    whole : nat_eq t.run last_run ≡ true → (a || b || nat_eq t.run last_run) ≡ false → ⊥
    whole is e = absurd (let no : true ≡ false = sym (or_last a b (nat_eq t.run last_run) is) ∙ e in cc)
      where
        or_last : (a b c : Bool) → c ≡ true → (a || b || c) ≡ true
        or_last true true c is = refl
        or_last true false c is = refl
        or_last false true c is = refl
        or_last false false c is = is

by_version : (v : Version) (s t : State) (ts : List State) → Proper s → EachLeads v s ts → Proper t
    → (wants_whole (version_number v) (length ts) t ≡ false → LeadsTo version_2 (last_state s ts) t) → (b : Bool)
    → wants_whole (version_number v) (length ts) t ≡ b
    → ProperKept (cond b (base_alone t) (record { version = v; base = s; later = ts ++ t ∷ [] }))
    × (state_of (cond b (base_alone t) (record { version = v; base = s; later = ts ++ t ∷ [] })) ≡ t)
by_version v s t ts base each proper leads true is = (record { base = proper; fits = tt; later = tt }, refl)
by_version version_1 s t ts base each proper leads false is = absurd (let no : true ≡ false = is in cc)
by_version version_2 s t ts base each proper leads false is =
    (record { base = base; fits = tt; later = each_push s t ts each (leads is) }, last_push s t ts)

pub kept_proper : KeptNextIsProper
kept_proper None t known proper = (record { base = proper; fits = tt; later = tt }, refl)
kept_proper (Some k) t known proper =
    let x = known k refl in
    by_version k.version k.base t k.later x.0.base x.0.later proper
    (λ e. record {
      follows = x.1 (not_last t (nat_eq (version_number k.version) 1) (nat_le 64 (length k.later)) e);
      proper = proper;
      pipelines = tt;
    })
    (wants_whole (version_number k.version) (length k.later) t) refl

range_next : (n k : ℕ) → range_with_len n (suc k) ≡ n ∷ range_with_len (n + 1) k
range_next n k = refl

pub numbered : (job : List ℕ) (v : Version) (s : State) (ts : List State) → EachLeads v s ts
    → ((last_state s ts).run ≡ s.run + length ts) × (map (λ (t : State). delta_name job t.run) ts ≡ map (delta_name job)
    (range_with_len (s.run + 1) (length ts)))
numbered job v s [] each = (omega arith, refl)
numbered job v s (t ∷ ts) each =
    let later = numbered job v t ts each.1 in
    let one = each.0.follows.run in
    let sum = later.0 in (
      omega (arith, sum, one),
      ap (λ names. delta_name job t.run ∷ names) later.1
          ∙ ap (λ n. delta_name job n ∷ map (delta_name job) (range_with_len (n + 1) (length ts))) one,
    )

pub changes_numbered : ChangesAreNumbered
changes_numbered job k proper =
    let n = numbered job k.version k.base k.later proper.later in
    let sum = n.0 in
    let version_1 : (state_of k).run + 1 - length k.later ≡ k.base.run + 1 = omega (arith, sum) in
    (omega (arith, sum), n.1 ∙ ap (λ z. map (delta_name job) (range_with_len z (length k.later))) (sym version_1))
