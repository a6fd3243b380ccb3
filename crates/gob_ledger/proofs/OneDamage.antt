-- A damaged map keeps nothing that can be read, and one name is to blame.
use Rattle.std.proofs.Common.{◌≡◌, ⊎_elim, ℕ, Bool, true, false, cond, List, [], ◌∷◌, ◌++◌, refl, sym, ap, subst, ◌∙◌}
use Rattle.std.proofs.Common.{Some, None, option_map}
use Rattle.std.proofs.lemmas.Option.{same_Some}
use Rattle.std.specs.declared.cmp.Ordering.TheVariants.{Less}
use Rattle.std.specs.declared.option.Option.{Option}
use Rattle.std.specs.List.{Contains}
use Rattle.std.specs.Option.{IsSome}
use Rattle.std.specs.Str.{bytes_eq}
use Rattle.gob_bytes.proofs.Tables.{less_then, rising_tail}
use Rattle.gob_bytes.specs.Paths.{begins_with, delta_folder, delta_name}
use Rattle.gob_bytes.specs.Tables.{name_cmp, IsInByteOrder}
use Rattle.gob_device.specs.Disk.{File, Files, contents_of, contents_at, IsListing}
use Rattle.gob_ledger.specs.State.{State}
use Rattle.gob_ledger.specs.Spelling.{Version, Proper, ReadsAs, state_spelling}
use Rattle.gob_ledger.specs.Delta.{ReadsAsChange, delta_spelling, Kept, EachLeads, delta_at, Keeps, KeepsAs, LeadOn}
use Rattle.gob_ledger.specs.Delta.{NoChange, StateDamaged, base, baseless, change}
use Rattle.gob_ledger.specs.Laws.{StateDamageIsOne}
use Rattle.gob_ledger.proofs.Members.{none_in, first_in, later_in, in_cases}
use Rattle.gob_ledger.proofs.DeltaNames.{change_below, change_order, name_above, not_itself_less, same_names}
use Rattle.gob_ledger.proofs.ReadingState.{one_spelling}
use Rattle.gob_ledger.proofs.ReadingChange.{one_change}
use Rattle.gob_ledger.proofs.OneState.{first_change, other_change, runs_rise, named_by_one, own_name}

-- ---- one name is to blame

same_listing : (front : List ℕ) (m : Files) (xs ys : List (List ℕ)) → IsListing front m xs → IsListing front m ys
    → xs ≡ ys
same_listing front m xs ys x y =
    same_names xs ys x.rising y.rising (λ n h. (y.exact n).1 ((x.exact n).0 h)) (λ n h. (x.exact n).1 ((y.exact n).0 h))

heads_are : {A : Type 0} (x y : A) (xs ys : List A) → x ∷ xs ≡ y ∷ ys → x ≡ y
heads_are x y xs ys e = cc

tails_are : {A : Type 0} (x y : A) (xs ys : List A) → x ∷ xs ≡ y ∷ ys → xs ≡ ys
tails_are x y xs ys e = cc

-- the first name that is no change, with the changes before it
record Stops (job : List ℕ) (m : Files) (v : Version) (s t : State) (before : List (List ℕ))
    (name : List ℕ) : Type 0 where
  leads : LeadOn job m v s before t
  stops : NoChange job m v t name

one_stop : (job : List ℕ) (m : Files) (v : Version) (s t u : State) (xs ys xs' ys' : List (List ℕ)) (a b : List ℕ)
    → Proper s → Stops job m v s t xs a → Stops job m v s u ys b → xs ++ a ∷ xs' ≡ ys ++ b ∷ ys' → a ≡ b
one_stop job m v s t u [] [] xs' ys' a b proper x y e = heads_are a b xs' ys' e
one_stop job m v s t u [] (n ∷ ys) xs' ys' a b proper x y e = absurd (
    let r = y.leads in
    let same : a ≡ n = heads_are a n xs' (ys ++ b ∷ ys') e in
    let at : s ≡ t = x.leads in
    x.stops r.1 r.0 (same ∙ r.2) (ap (contents_at m) same ∙ r.3) (subst (λ w. ReadsAsChange v w r.1 r.0) at r.4))
one_stop job m v s t u (n ∷ xs) [] xs' ys' a b proper x y e = absurd (
    let r = x.leads in
    let same : n ≡ b = heads_are n b (xs ++ a ∷ xs') ys' e in
    let at : s ≡ u = y.leads in
    y.stops r.1 r.0 (sym same ∙ r.2) (ap (contents_at m) (sym same) ∙ r.3)
    (subst (λ w. ReadsAsChange v w r.1 r.0) at r.4))
one_stop job m v s t u (n ∷ xs) (k ∷ ys) xs' ys' a b proper x y e =
    let r = x.leads in
    let q = y.leads in
    let name : n ≡ k = heads_are n k (xs ++ a ∷ xs') (ys ++ b ∷ ys') e in
    let text : r.1 ≡ q.1 = same_Some r.1 q.1 (sym r.3 ∙ ap (contents_at m) name ∙ q.3) in
    let same : r.0 ≡ q.0 =
    one_change v s r.1 r.0 q.0 proper r.4 (subst (λ z. ReadsAsChange v s z q.0) (sym text) q.4) in
    one_stop job m v r.0 t u xs ys xs' ys' a b r.4.leads.proper
    (record { leads = r.5; stops = x.stops })
    (record { leads = subst (λ (z : State). LeadOn job m v z ys u) (sym same) q.5; stops = y.stops })
    (tails_are n k (xs ++ a ∷ xs') (ys ++ b ∷ ys') e)

-- ---- nothing is kept

below_is : (front : List ℕ) (m : Files) (names : List (List ℕ)) (name : List ℕ) → IsListing front m names
    → Contains names name → (begins_with front name ≡ true) × IsSome (m name)
below_is front m names name listing h = (listing.exact name).0 h

pub some_contents : (m : Files) (name : List ℕ) → IsSome (m name) → (text : List ℕ) × (contents_at m name ≡ Some text)
some_contents m name some = cases (m name) refl some
  where
    cases : (o : Option File) → m name ≡ o → IsSome o → (text : List ℕ) × (contents_at m name ≡ Some text)
    cases None e some = absurd (let never : false ≡ true = some in cc)
    cases (Some f) e some = (contents_of f, ap (option_map contents_of) e)

-- the names are those of the later states, and their files hold the changes
record Tells (job : List ℕ) (m : Files) (v : Version) (s : State) (ts : List State)
    (names : List (List ℕ)) : Type 0 where
  order : IsInByteOrder names
  texts : (name : List ℕ) → Contains names name → contents_at m name ≡ delta_at job v s ts name
  some : (name : List ℕ) → Contains names name → (text : List ℕ) × (contents_at m name ≡ Some text)
  all : (t : State) → Contains ts t → Contains names (delta_name job t.run)

-- the first name is the next state's
first_is_next : (job : List ℕ) (m : Files) (v : Version) (s t : State) (ts : List State) (name : List ℕ)
    (names : List (List ℕ)) → EachLeads v s (t ∷ ts)
    → Tells job m v s (t ∷ ts) (name ∷ names) → name ≡ delta_name job t.run
first_is_next job m v s t ts name names each tells =
    let some = tells.some name (first_in name names name refl) in
    let named = named_by_one job v s (t ∷ ts) name some.0
    (sym (tells.texts name (first_in name names name refl)) ∙ some.1) in
    ⊎_elim (λ e. e)
    (λ k. ⊎_elim
    (λ e. named.2 ∙ ap (λ (w : State). delta_name job w.run) (sym e))
    (λ l.
    let above = name_above name names (delta_name job t.run) tells.order k in
    let r = runs_rise v t ts named.0 each.1 l in
    let below = change_order job t.run named.0.run r.0 r.1 in
    absurd (not_itself_less name
    (less_then name (delta_name job t.run) name above
    (subst (λ n. name_cmp (delta_name job t.run) n ≡ Less) (sym named.2) below))))
    (in_cases t ts named.0 named.1))
    (in_cases name names (delta_name job t.run) (tells.all t (first_in t ts t refl)))

-- behind the first name stand those of the states behind the next one
tells_on : (job : List ℕ) (m : Files) (v : Version) (s t : State) (ts : List State) (name : List ℕ)
    (names : List (List ℕ)) → EachLeads v s (t ∷ ts)
    → Tells job m v s (t ∷ ts) (name ∷ names) → name ≡ delta_name job t.run → Tells job m v t ts names
tells_on job m v s t ts name names each tells is = record {
  order = rising_tail name names tells.order;
  texts = λ n h. tells.texts n (later_in name names n h)
      ∙ other_change job v s t ts n
      (λ e. not_itself_less n (subst (λ z. name_cmp z n ≡ Less) (is ∙ sym e) (name_above name names n tells.order h)));
  some = λ n h. tells.some n (later_in name names n h);
  all = λ u h. ⊎_elim
      (λ e. absurd (own_name job v t ts each.1 each.0.proper.run u h (sym e ∙ is)))
      (λ k. k)
      (in_cases name names (delta_name job u.run) (tells.all u (later_in t ts u h)));
}

none_told : (job : List ℕ) (m : Files) (v : Version) (s : State) (name : List ℕ) (names : List (List ℕ))
    → Tells job m v s [] (name ∷ names) → ⊥
none_told job m v s name names tells =
    let some = tells.some name (first_in name names name refl) in
    let never : None ≡ Some some.0 = sym (tells.texts name (first_in name names name refl)) ∙ some.1 in cc

next_text : (job : List ℕ) (m : Files) (v : Version) (s t : State) (ts : List State) (name : List ℕ)
    (names : List (List ℕ))
    → Tells job m v s (t ∷ ts) (name ∷ names) → name ≡ delta_name job t.run
    → contents_at m name ≡ Some (delta_spelling v s t)
next_text job m v s t ts name names tells is =
    tells.texts name (first_in name names name refl) ∙ ap (delta_at job v s (t ∷ ts)) is ∙ first_change job v s t ts

-- what is kept has no name where the changes stop
no_stop : (job : List ℕ) (m : Files) (v : Version) (s t : State) (ts : List State) (before after : List (List ℕ))
    (name : List ℕ) → Proper s → EachLeads v s ts
    → Tells job m v s ts (before ++ name ∷ after) → Stops job m v s t before name → ⊥
no_stop job m v s t [] [] after name proper each tells stop = none_told job m v s name after tells
no_stop job m v s t [] (n ∷ before) after name proper each tells stop =
    none_told job m v s n (before ++ name ∷ after) tells
no_stop job m v s t (u ∷ us) [] after name proper each tells stop =
    let is = first_is_next job m v s u us name after each tells in
    let at : s ≡ t = stop.leads in
    stop.stops (delta_spelling v s u) u is (next_text job m v s u us name after tells is)
    (subst (λ (w : State). ReadsAsChange v w (delta_spelling v s u) u) at
    (record { spelled = refl; leads = each.0 }))
no_stop job m v s t (u ∷ us) (n ∷ before) after name proper each tells stop =
    let r = stop.leads in
    let names = before ++ name ∷ after in
    let is = first_is_next job m v s u us n names each tells in
    let text : r.1 ≡ delta_spelling v s u =
    same_Some r.1 (delta_spelling v s u) (sym r.3 ∙ next_text job m v s u us n names tells is) in
    let same : r.0 ≡ u = one_change v s r.1 r.0 u proper r.4 (record { spelled = text; leads = each.0 }) in
    no_stop job m v u t us before after name each.0.proper each.1
    (tells_on job m v s u us n names each tells is)
    (record { leads = subst (λ (z : State). LeadOn job m v z before t) same r.5; stops = stop.stops })

-- what a map keeps is told by the names of its changes
kept_tells : (job : List ℕ) (m : Files) (k : Kept) (names : List (List ℕ)) → Keeps job m k
    → IsListing (delta_folder job) m names → Tells job m k.version k.base k.later names
kept_tells job m k names keeps listing = record {
  order = listing.rising;
  texts = λ n h. keeps.deltas n ((listing.exact n).0 h).0;
  some = λ n h. some_contents m n ((listing.exact n).0 h).1;
  all = λ t h. (listing.exact (delta_name job t.run)).1 (change_below job t.run, there t h);
}
  where
    has_text : (v : Version) (s : State) (ts : List State) (t : State) → Contains ts t
        → (text : List ℕ) × (delta_at job v s ts (delta_name job t.run) ≡ Some text)
    has_text v s [] t h = none_in t h
    has_text v s (u ∷ us) t h = ⊎_elim
        (λ e. (
          delta_spelling v s u,
          subst
              (λ (w : State). delta_at job v s (u ∷ us) (delta_name job w.run) ≡ Some (delta_spelling v s u)) e
              (first_change job v s u us),
        ))
        (λ l. either v s u us t (has_text v u us t l))
        (in_cases u us t h)
      where
        either : (v : Version) (s u : State) (us : List State) (t : State)
            → (text : List ℕ) × (delta_at job v u us (delta_name job t.run) ≡ Some text)
            → (text : List ℕ) × (delta_at job v s (u ∷ us) (delta_name job t.run) ≡ Some text)
        either v s u us t later = by_name (bytes_eq (delta_name job t.run) (delta_name job u.run))
          where
            by_name : (b : Bool)
                → (text : List ℕ)
                × (cond b (Some (delta_spelling v s u)) (delta_at job v u us (delta_name job t.run)) ≡ Some text)
            by_name true = (delta_spelling v s u, refl)
            by_name false = later

    there : (t : State) → Contains k.later t → IsSome (m (delta_name job t.run))
    there t h =
        let text = has_text k.version k.base k.later t h in
        is_there (m (delta_name job t.run)) text.0
        (keeps.deltas (delta_name job t.run) (change_below job t.run) ∙ text.1)
      where
        is_there : (o : Option File) (text : List ℕ) → option_map contents_of o ≡ Some text → IsSome o
        is_there None text e = absurd (let never : None ≡ Some text = e in cc)
        is_there (Some f) text e = refl

pub damaged_keeps_nothing : (job : List ℕ) (m : Files) (name : List ℕ) → StateDamaged job m name → (k : Option Kept)
    → KeepsAs job m k → ⊥
damaged_keeps_nothing job m name (base bytes at none) None h = let never : None ≡ Some bytes = sym h.base ∙ at in cc
damaged_keeps_nothing job m name (base bytes at none) (Some k) h =
    none k.version k.base
    (record { spelled = same_Some bytes _ (sym at ∙ h.0.base); fits = h.1.fits; proper = h.1.base })
damaged_keeps_nothing job m name (baseless first names at listing) None h =
    let is = (listing.exact name).0 (first_in name names name refl) in
    let some = some_contents m name is.1 in
    let never : None ≡ Some some.0 = sym (h.deltas name is.0) ∙ some.1 in cc
damaged_keeps_nothing job m name (baseless first names at listing) (Some k) h =
    let never : None ≡ Some (state_spelling k.version k.base) = sym at ∙ h.0.base in cc
damaged_keeps_nothing job m name (change v bytes s t before after last at reads listing leads none) None h =
    let never : None ≡ Some bytes = sym h.base ∙ at in cc
damaged_keeps_nothing job m name (change v bytes s t before after last at reads listing leads none) (Some k) h =
    let text : bytes ≡ state_spelling k.version k.base = same_Some bytes _ (sym at ∙ h.0.base) in
    let own : ReadsAs k.version bytes k.base = record { spelled = text; fits = h.1.fits; proper = h.1.base } in
    let one = one_spelling v k.version bytes s k.base reads own in
    no_stop job m k.version k.base t k.later before after name h.1.base h.1.later
    (kept_tells job m k (before ++ name ∷ after) h.0 listing)
    (record {
      leads = subst (λ z. LeadOn job m k.version z before t) one.1 (subst (λ w. LeadOn job m w s before t) one.0 leads);
      stops = subst (λ w. NoChange job m w t name) one.0 none;
    })

pub one_blamed : (job : List ℕ) (m : Files) (a b : List ℕ) → StateDamaged job m a → StateDamaged job m b → a ≡ b
one_blamed job m a b (base bytes at none) (base bytes' at' none') = refl
one_blamed job m a b (base bytes at none) (baseless first names at' listing) =
    absurd (let never : None ≡ Some bytes = sym at' ∙ at in cc)
one_blamed job m a b (base bytes at none) (change v bytes' s t before after last at' reads listing leads none') =
    absurd (none v s (subst (λ x. ReadsAs v x s) (same_Some bytes' bytes (sym at' ∙ at)) reads))
one_blamed job m a b (baseless first names at listing) (base bytes at' none) =
    absurd (let never : None ≡ Some bytes = sym at ∙ at' in cc)
one_blamed job m a b (baseless first names at listing) (baseless first' names' at' listing') =
    heads_are a b names names' (same_listing (delta_folder job) m (a ∷ names) (b ∷ names') listing listing')
one_blamed job m a b (baseless first names at listing)
    (change v bytes s t before after last at' reads listing' leads none) =
    absurd (let never : None ≡ Some bytes = sym at ∙ at' in cc)
one_blamed job m a b (change v bytes s t before after last at reads listing leads none) (base bytes' at' none') =
    absurd (none' v s (subst (λ x. ReadsAs v x s) (same_Some bytes bytes' (sym at ∙ at')) reads))
one_blamed job m a b (change v bytes s t before after last at reads listing leads none)
    (baseless first names at' listing') =
    absurd (let never : None ≡ Some bytes = sym at' ∙ at in cc)
one_blamed job m a b (change v bytes s t before after last at reads listing leads none)
    (change v' bytes' s' t' before' after' last' at' reads' listing' leads' none') =
    let text : bytes ≡ bytes' = same_Some bytes bytes' (sym at ∙ at') in
    let one = one_spelling v v' bytes s s' reads (subst (λ x. ReadsAs v' x s') (sym text) reads') in
    one_stop job m v' s' t t' before before' after after' a b reads'.proper
    (record {
      leads = subst (λ z. LeadOn job m v' z before t) one.1 (subst (λ w. LeadOn job m w s before t) one.0 leads);
      stops = subst (λ w. NoChange job m w t a) one.0 none;
    })
    (record { leads = leads'; stops = none' })
    (same_listing (delta_folder job) m (before ++ a ∷ after) (before' ++ b ∷ after') listing listing')

pub damage_is_one : StateDamageIsOne
damage_is_one job m name damaged = record {
  nothing = damaged_keeps_nothing job m name damaged;
  blamed = λ other again. one_blamed job m other name again damaged;
}
