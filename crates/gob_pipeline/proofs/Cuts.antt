-- Pieces that are fed one after the other.
use Rattle.std.proofs.Common.{◌≡◌, ℕ, List, [], ◌∷◌, ◌++◌, flat_map, refl, sym, ap, ◌∙◌, subst, append_assoc}
use Rattle.std.proofs.Common.{append-nil}
use Rattle.gob_plan.specs.declared.plan.Plan.{Plan}
use Rattle.gob_meaning.specs.Fold.{Delivery, sent_to, unit_fold, before_stop}
use Rattle.gob_meaning.proofs.Joins.{sent-append}
use Rattle.gob_pipeline.specs.Made.{Buffers, AddsTo, buffer_of}
use Rattle.gob_pipeline.specs.Machine.{MachineValue, WasFed, sent_before_stop, Sends, Fed}
use Rattle.gob_pipeline.specs.Laws.{FedAll, AnyCutMakesTheSame}

pub adds_nothing : (b : Buffers) → AddsTo b b []
unfolding sent_to
adds_nothing b t = sym (append-nil (buffer_of b t))

pub adds_both : (a b c : Buffers) (x y : List Delivery) → AddsTo a b x → AddsTo b c y → AddsTo a c (x ++ y)
adds_both a b c x y first second t =
    second t ∙ ap (λ l. l ++ sent_to t y) (first t)
    ∙ append_assoc (buffer_of a t) (sent_to t x) (sent_to t y)
    ∙ ap (λ l. buffer_of a t ++ l) (sym (sent-append t x y))

-- nothing was fed
pub fed_nothing : (plan : Plan) (m : MachineValue) (b : Buffers) → Fed plan m m [] b b
fed_nothing plan m b = record {
  lo = refl;
  goes = λ fed was. (
    subst (WasFed plan m) (sym (append-nil fed)) was,
    record {
      given = [];
      all = ap (sent_before_stop plan m.lo) (append-nil fed) ∙ sym (append-nil (sent_before_stop plan m.lo fed));
      added = adds_nothing b;
    },
  );
}

sends_both : (plan : Plan) (lo : ℕ) (fed x y : List ℕ) (a b c : Buffers) → Sends plan lo fed x a b →
    Sends plan lo (fed ++ x) y b c → Sends plan lo fed (x ++ y) a c
sends_both plan lo fed x y a b c first second = record {
  given = first.given ++ second.given;
  all = ap (sent_before_stop plan lo) (sym (append_assoc fed x y)) ∙ second.all
      ∙ ap (λ l. l ++ second.given) first.all
      ∙ append_assoc (sent_before_stop plan lo fed) first.given second.given;
  added = adds_both a b c first.given second.given first.added second.added;
}

-- one piece and then another
pub fed_then : (plan : Plan) (l m n : MachineValue) (x y : List ℕ) (a b c : Buffers) → Fed plan l m x a b →
    Fed plan m n y b c → Fed plan l n (x ++ y) a c
fed_then plan l m n x y a b c first second = record {
  lo = second.lo ∙ first.lo;
  goes = λ fed was.
      let one = first.goes fed was in
      let two = second.goes (fed ++ x) one.0 in (
        subst (WasFed plan n) (append_assoc fed x y) two.0,
        sends_both plan l.lo fed x y a b c one.1 (subst (λ lo. Sends plan lo (fed ++ x) y b c) first.lo two.1),
      );
}

pub fed_all : (plan : Plan) (pieces : List (List ℕ)) (old new : MachineValue) (a b : Buffers) →
    FedAll plan old pieces new a b → Fed plan old new (flat_map (λ piece. piece) pieces) a b
fed_all plan [] old new a b h =
    subst (λ m. Fed plan old m [] a b) h.0 (subst (λ c. Fed plan old old [] a c) h.1 (fed_nothing plan old a))
fed_all plan (piece ∷ pieces) old new a b h =
    fed_then plan old h.0 new piece (flat_map (λ p. p) pieces) a h.1 b h.2 (fed_all plan pieces h.0 new h.1 b h.3)

nothing_sent : (plan : Plan) (lo : ℕ) → sent_before_stop plan lo [] ≡ []
unfolding sent_before_stop unit_fold before_stop Rattle.gob_bytes.specs.Lines.lines_from
nothing_sent plan lo = refl

pub any_cut : AnyCutMakesTheSame
any_cut plan old new pieces before after was all =
    let made = (fed_all plan pieces old new before after all).goes [] was in (
      made.0,
      λ t. made.1.added t ∙ ap (λ l. buffer_of before t ++ sent_to t l)
          (sym (made.1.all ∙ ap (λ l. l ++ made.1.given) (nothing_sent plan old.lo))),
    )
