-- What is sent to each target, and the names under which it is staged.
use Rattle.std.proofs.Common.{◌≡◌, ◌≢◌, ℕ, ◌≤◌, ◌^◌, Bool, true, false, cond, List, [], ◌∷◌, ◌++◌, length, refl, sym}
use Rattle.std.proofs.Common.{ap, subst, ◌∙◌, None, Some, unwrap_or, nat_eq, append-nil, append_assoc}
use Rattle.std.specs.declared.option.Option.{Option}
use Rattle.std.specs.Str.{bytes_eq}
use Rattle.std.proofs.lemmas.Bool.{and_from, eq-eqb}
use Rattle.gob_bytes.specs.Tables.{Table, at_name}
use Rattle.gob_bytes.proofs.Tables.{at-with_name, name_itself, same_name, two_names}
use Rattle.gob_meaning.specs.Fold.{Delivery, same_target, sent_to}
use Rattle.gob_meaning.specs.Items.{Target, out, err, bad}
use Rattle.gob_meaning.specs.Laws.{IsPlaced, IsRange}
use Rattle.gob_meaning.proofs.Apart.{names_apart}
use Rattle.gob_meaning.proofs.Placed.{same_is, sent_is_placed}
use Rattle.gob_meaning.proofs.Joins.{sent-append}
use Rattle.gob_plan.specs.declared.plan.Plan.{Plan}
use Rattle.gob_plan.specs.declared.units.Unit.{Unit as WorkUnit}
use Rattle.gob_stage.specs.Attempt.{with_appended}
use Rattle.gob_task.specs.Task.{AreSent, name_in, unit_sends}
use Rattle.gob_task.specs.Staging.{AreFilled, appends_of, with_appends}

sent_one : (t : Target) (d : Delivery) → sent_to t (d ∷ []) ≡ cond (same_target t d.target) d.bytes []
unfolding sent_to
sent_one t d = append-nil (cond (same_target t d.target) d.bytes [])

same_self : (t : Target) → same_target t t ≡ true
same_self (out b p) = and_from (nat_eq b b) (bytes_eq p p) (eq-eqb b b refl) (name_itself p)
same_self (err b p) = and_from (nat_eq b b) (bytes_eq p p) (eq-eqb b b refl) (name_itself p)
same_self bad = refl

-- one delivery more, to this target
sent_here : (given : List Delivery) (d : Delivery) → sent_to d.target (given ++ d ∷ []) ≡ sent_to d.target given ++
    d.bytes
sent_here given d =
    sent-append d.target given (d ∷ [])
    ∙ ap (λ bs. sent_to d.target given ++ bs) (sent_one d.target d ∙ ap (λ b. cond b d.bytes []) (same_self d.target))

-- and to another one
sent_elsewhere : (t : Target) (given : List Delivery) (d : Delivery) → same_target t d.target ≡ false
    → sent_to t (given ++ d ∷ []) ≡ sent_to t given
sent_elsewhere t given d apart =
    sent-append t given (d ∷ [])
    ∙ (ap (λ bs. sent_to t given ++ bs) (sent_one t d ∙ ap (λ b. cond b d.bytes []) apart) ∙ append-nil (sent_to t
    given))

-- what is sent goes to targets that a file's name can have
abbrev pub ArePlaced : List Delivery → Type 0
ArePlaced given = (t : Target) → sent_to t given ≢ [] → IsPlaced t

placed_more : (given : List Delivery) (d : Delivery) → ArePlaced given → IsPlaced d.target → ArePlaced (given ++ d ∷ [])
placed_more given d placed fine t some = cases (same_target t d.target) refl
  where
    cases : (b : Bool) → same_target t d.target ≡ b → IsPlaced t
    cases true is = subst IsPlaced (sym (same_is t d.target is)) fine
    cases false is = placed t (λ none. some (sent_elsewhere t given d is ∙ none))

names_differ : (plan : Plan) (u : WorkUnit) → IsRange u.part u.lo u.hi → (t s : Target) → IsPlaced t → IsPlaced s
    → name_in plan u t ≡ name_in plan u s → t ≡ s
names_differ plan u range t s fine fine' same =
    (names_apart plan plan u.part u.part u.lo u.lo u.hi u.hi t s range range fine fine' same).3

not_nothing : (b : ℕ) (bs : List ℕ) → b ∷ bs ≢ []
not_nothing b bs e = let no : b ∷ bs ≡ [] = e in cc

none_sent : (bs : List ℕ) (o : Option (List ℕ)) → o ≡ None → (bs ≢ [] → o ≡ Some bs) → [] ≡ bs
none_sent [] o is all = refl
none_sent (b ∷ bs) o is all = absurd (let no : None ≡ Some (b ∷ bs) = sym is ∙ all (not_nothing b bs) in cc)

last_nothing : (x y : List ℕ) → x ++ y ≡ [] → y ≡ []
last_nothing [] y e = e
last_nothing (b ∷ x) y e = absurd (not_nothing b (x ++ y) e)

-- the contents of a target are what was sent to it, where that is nothing too
held_before : (plan : Plan) (u : WorkUnit) → IsRange u.part u.lo u.hi → (given : List Delivery) (contents : Table
    (List ℕ))
    → ArePlaced given → AreSent plan u given contents → (t : Target) → IsPlaced t
    → unwrap_or (at_name contents (name_in plan u t)) [] ≡ sent_to t given
held_before plan u range given contents placed sent t fine = cases (at_name contents (name_in plan u t)) refl
  where
    cases : (o : Option (List ℕ)) → at_name contents (name_in plan u t) ≡ o → unwrap_or o [] ≡ sent_to t given
    cases None is = none_sent (sent_to t given) (at_name contents (name_in plan u t)) is (sent.all t)
    cases (Some bytes) is =
        let found = sent.only (name_in plan u t) bytes is in
        let some : sent_to found.0 given ≢ [] = λ none. found.3 (found.2 ∙ none) in
        let same : t ≡ found.0 = names_differ plan u range t found.0 fine (placed found.0 some) found.1 in
        found.2 ∙ ap (λ s. sent_to s given) (sym same)

-- one more delivery, and its append
sent_more : (plan : Plan) (u : WorkUnit) → IsRange u.part u.lo u.hi → (given : List Delivery) (contents : Table
    (List ℕ))
    → ArePlaced given → AreSent plan u given contents → (d : Delivery) → IsPlaced d.target → d.bytes ≢ []
    → AreSent plan u (given ++ d ∷ []) (with_appended (name_in plan u d.target) d.bytes contents)
sent_more plan u range given contents placed sent d fine some = record { all = all; only = only }
  where
    name : List ℕ
    name = name_in plan u d.target

    more : List ℕ
    more = unwrap_or (at_name contents name) [] ++ d.bytes

    now : Table (List ℕ)
    now = with_appended name d.bytes contents

    here : more ≡ sent_to d.target (given ++ d ∷ [])
    here =
        ap (λ bs. bs ++ d.bytes) (held_before plan u range given contents placed sent d.target fine)
        ∙ sym (sent_here given d)

    all_by : (t : Target) (b : Bool) → same_target t d.target ≡ b → sent_to t (given ++ d ∷ []) ≢ []
        → at_name now (name_in plan u t) ≡ Some (sent_to t (given ++ d ∷ []))
    all_by t true is sends =
        subst (λ s. at_name now (name_in plan u s) ≡ Some (sent_to s (given ++ d ∷ []))) (sym (same_is t d.target is))
        (at-with_name contents name more name
        ∙ (ap (λ b. cond b (Some more) (at_name contents name)) (name_itself name) ∙ ap Some here))
    all_by t false is sends =
        let stays : sent_to t (given ++ d ∷ []) ≡ sent_to t given = sent_elsewhere t given d is in
        let before : sent_to t given ≢ [] = λ none. sends (stays ∙ none) in
        let apart : name_in plan u t ≢ name = λ e.
        let same : t ≡ d.target = names_differ plan u range t d.target (placed t before) fine e in
        let yes : same_target t t ≡ true = same_self t in
        let no : same_target t t ≡ false = subst (λ s. same_target t s ≡ false) (sym same) is in cc in
        at-with_name contents name more (name_in plan u t)
        ∙ (ap (λ b. cond b (Some more) (at_name contents (name_in plan u t))) (two_names (name_in plan u t) name apart)
        ∙ (sent.all t before ∙ ap Some (sym stays)))

    all : (t : Target) → sent_to t (given ++ d ∷ []) ≢ []
        → at_name now (name_in plan u t) ≡ Some (sent_to t (given ++ d ∷ []))
    all t sends = all_by t (same_target t d.target) refl sends

    Told : List ℕ → List ℕ → Type 0
    Told q bytes = (t : Target) × (q ≡ name_in plan u t) × (bytes ≡ sent_to t (given ++ d ∷ [])) × (bytes ≢ [])

    elsewhere_by : (q bytes : List ℕ) (t : Target) (b : Bool) → same_target t d.target ≡ b → bytes_eq q name ≡ false
        → q ≡ name_in plan u t → bytes ≡ sent_to t given → bytes ≢ [] → Told q bytes
    elsewhere_by q bytes t true is apart called sends bytes_some = absurd (
        let yes : bytes_eq q q ≡ true = name_itself q in
        let same : q ≡ name = called ∙ ap (name_in plan u) (same_is t d.target is) in
        let no : bytes_eq q q ≡ false = subst (λ n. bytes_eq q n ≡ false) (sym same) apart in cc)
    elsewhere_by q bytes t false is apart called sends bytes_some =
        (t, called, sends ∙ sym (sent_elsewhere t given d is), bytes_some)

    elsewhere : (q bytes : List ℕ) → bytes_eq q name ≡ false → at_name contents q ≡ Some bytes → Told q bytes
    elsewhere q bytes apart is =
        let found = sent.only q bytes is in
        elsewhere_by q bytes found.0 (same_target found.0 d.target) refl apart found.1 found.2 found.3

    only_by : (q bytes : List ℕ) (b : Bool) → bytes_eq q name ≡ b
        → cond b (Some more) (at_name contents q) ≡ Some bytes → Told q bytes
    only_by q bytes true same is =
        let e : more ≡ bytes = cc in (
          d.target,
          same_name q name same,
          sym e ∙ here,
          λ none. some (last_nothing (unwrap_or (at_name contents name) []) d.bytes (e ∙ none)),
        )
    only_by q bytes false apart is = elsewhere q bytes apart is

    only : (q bytes : List ℕ) → at_name now q ≡ Some bytes → Told q bytes
    only q bytes is = only_by q bytes (bytes_eq q name) refl (sym (at-with_name contents name more q) ∙ is)

-- and all of them
pub sent_all : (plan : Plan) (u : WorkUnit) → IsRange u.part u.lo u.hi → (more given : List Delivery)
    (contents : Table (List ℕ)) → AreFilled more → ArePlaced given → AreSent plan u given contents
    → AreSent plan u (given ++ more) (with_appends (appends_of plan u more) contents)
unfolding with_appends
sent_all plan u range [] given contents filled placed sent =
    subst (λ g. AreSent plan u g contents) (sym (append-nil given)) sent
sent_all plan u range (d ∷ more) given contents filled placed sent =
    let one : Table (List ℕ) = with_appended (name_in plan u d.target) d.bytes contents in
    subst (λ g. AreSent plan u g (with_appends (appends_of plan u more) one)) (append_assoc given (d ∷ []) more)
    (sent_all plan u range more (given ++ d ∷ []) one filled.2 (placed_more given d placed filled.0)
    (sent_more plan u range given contents placed sent d filled.0 filled.1))

-- what is sent to each target is all that counts
pub sent_alike : (plan : Plan) (u : WorkUnit) (x y : List Delivery) (contents : Table (List ℕ))
    → ((t : Target) → sent_to t x ≡ sent_to t y) → AreSent plan u x contents → AreSent plan u y contents
sent_alike plan u x y contents same sent = record {
  all = λ t some. sent.all t (λ none. some (sym (same t) ∙ none)) ∙ ap Some (same t);
  only = λ name bytes is. let found = sent.only name bytes is in
      (found.0, found.1, found.2 ∙ same found.0, found.3);
}

pub placed_of_unit : (plan : Plan) (u : WorkUnit) (bytes : List ℕ) → length plan.branches ≤ 2 ^ 64
    → ArePlaced (unit_sends plan u bytes)
placed_of_unit plan u bytes few t some = sent_is_placed plan u.lo bytes t few some
