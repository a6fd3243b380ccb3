use Rattle.std.proofs.Common.{◌≡◌, ◌∙◌, ◌++◌, Bor, List, ℕ, ap, sym, unwrap_or, option_copied}
use Rattle.std.specs.declared.option.Option.{Option}
use Rattle.std.specs.List.{flat_map}
use Rattle.gob_ledger.specs.Marks.{Marks, Done, Span}
use Rattle.gob_ledger.specs.Next.{no_marks}
use Rattle.gob_segments.specs.Written.{begun_in, done_from}
use Rattle.gob_segments.proofs.Later.{new_done-is}
use Rattle.gob_segments.proofs.since.done_since.Goals as goal
use Rattle.gob_segments.proofs.since.done_since.Goals.{in-Some+in_ok-push_begun_in, in_default}

pub returns : goal.returns
returns c =
    let b : Marks = unwrap_or (option_copied c.args.before) no_marks in
    let a : List Done = c.args.after.now in
    let parts : List Span → List Done = flat_map (λ (s : Span). begun_in s a) in
    let of : Option (Bor Marks) → List Done = λ o. parts (unwrap_or (option_copied o) no_marks).owed in
    let front : c.match-before.done.items ≡ flat_map (λ (s : Span). begun_in s a) b.owed =
    elim c.match-before.branch [
      | in-Some+in_ok-push_begun_in w ↦ (λ i. (w.done-is i).items)
          ∙ w.in_ok-push_begun_in.ensures
          ∙ ap (λ (ds : List Done). ds ++ parts w.open_ranges.result.now) c.new-done.ensures.items
          ∙ ap parts w.open_ranges.ensures.open_ranges ∙ sym (ap of w.in-Some.is)
      | in_default w ↦ (λ i. (w.done-is i).items) ∙ c.new-done.ensures.items
          ∙ sym (ap of w.in_default.is)
    ] in
    let behind : c.split_at.result.1.now ≡ done_from b.next a =
    c.split_at.ensures.back ∙ c.done_below.ensures.back ∙ ap (λ (n : ℕ). done_from n a) c.next_of.ensures.next in
    c.in_ok-extend_from_slice.ensures.items
    ∙ ap (λ (ds : List Done). ds ++ c.split_at.result.1.now) front
    ∙ ap (λ (ds : List Done). flat_map (λ (s : Span). begun_in s a) b.owed ++ ds) behind
    ∙ new_done-is b a c.next_of.ensures.tiled c.requires
