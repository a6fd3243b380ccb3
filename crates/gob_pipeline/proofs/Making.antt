-- A line in the parts of its plan: its text, its rows and what they make.
use Rattle.std.proofs.Common.{◌≡◌, ℕ, suc, ◌+◌, ◌-◌, ◌^◌, ◌<◌, ◌≤◌, true, false, cond, not, ◌&&◌, nat_eq, nat_le, List}
use Rattle.std.proofs.Common.{[], ◌∷◌, ◌++◌, length, take, filter}
use Rattle.std.proofs.Common.{Option, None, Some, refl, sym, ap, subst, ◌∙◌, arith}
use Rattle.std.proofs.Math.Seq.{take-append_seam}
use Rattle.std.proofs.lemmas.Bool.{and_parts, leb-true}
use Rattle.std.proofs.lemmas.List.Sums.{count_by-le-length, length-filter}
use Rattle.std.specs.List.{list_all}
use Rattle.std.specs.Option.{is_none}
use Rattle.gob_bytes.specs.Lines.{Line, raw_of, text_of, without_cr}
use Rattle.gob_convert.specs.Made.{Made, concatenation, made_each, then_each, all_made}
use Rattle.gob_convert.specs.Fitting.{all_made-then_each}
use Rattle.gob_convert.proofs.MadeLemmas.{joined-assoc, joined-nothing, made_each-same}
use Rattle.gob_plan.specs.declared.rows.Column.{Column}
use Rattle.gob_plan.specs.declared.rows.Row.{Row}
use Rattle.gob_plan.specs.declared.plan.Plan.{Plan}
use Rattle.gob_plan.specs.declared.plan.BranchSpec.{BranchSpec}
use Rattle.gob_plan.specs.declared.plan.Format.{Format}
use Rattle.gob_plan.specs.Tests.{test_fits}
use Rattle.gob_plan.specs.Rows.{conforms}
use Rattle.gob_meaning.specs.Formats.{line_rows}
use Rattle.gob_meaning.specs.Items.{RowMade, LineMade, nothing, line_made}
use Rattle.gob_meaning.specs.Plans.{max_steps, max_branches, branch_fits, branch_is_short, is_fitting, IsFitting}
use Rattle.gob_meaning.specs.Plans.{writes_columns}
use Rattle.gob_meaning.specs.Steps.{chain_rows, columns_through, first_refused}
use Rattle.gob_meaning.proofs.Fits.{fits_in_parts}
use Rattle.gob_meaning.proofs.FormatRows.{format_keeps, read_is_written}
use Rattle.gob_meaning.proofs.StepRows.{steps_keep}
use Rattle.gob_branch.proofs.Joined.{all_of_made}
use Rattle.gob_branch.specs.Branches.{ChainValue, after_chain}
use Rattle.gob_pipeline.specs.Making.{BadText, MadeText, chain_of, is_left, routes_of, rows_of_text, text_makes}
use Rattle.gob_pipeline.specs.Routes.{RoutesValue, is_routed, route_makes}
use Rattle.gob_pipeline.specs.Taking.{LineMakes}

-- ---- texts

length-push : (xs : List ℕ) (x : ℕ) → length (xs ++ x ∷ []) ≡ suc (length xs)
length-push [] x = refl
length-push (y ∷ xs) x = ap suc (length-push xs x)

-- bytes without the last one
pub front_of : (raw body : List ℕ) (x : ℕ) → raw ≡ body ++ x ∷ [] → take (length raw - 1) raw ≡ body
front_of raw body x is =
    let long = length-push body x in
    let shorter : length (body ++ x ∷ []) - 1 ≡ length body = omega (arith, long) in
    ap (λ r. take (length r - 1) r) is ∙ ap (λ n. take n (body ++ x ∷ [])) shorter ∙ take-append_seam body (x ∷ [])

cr_taken : (front : List ℕ) → without_cr (front ++ 13 ∷ []) ≡ front
cr_taken [] = refl
cr_taken (a ∷ []) = refl
cr_taken (a ∷ b ∷ bs) = ap (λ l. a ∷ l) (cr_taken (b ∷ bs))

other_kept : (front : List ℕ) (x : ℕ) → nat_eq x 13 ≡ false → without_cr (front ++ x ∷ []) ≡ front ++ x ∷ []
other_kept [] x other = ap (λ t. cond t [] (x ∷ [])) other
other_kept (a ∷ []) x other = ap (λ l. a ∷ l) (other_kept [] x other)
other_kept (a ∷ b ∷ bs) x other = ap (λ l. a ∷ l) (other_kept (b ∷ bs) x other)

pub text_of_none : (raw body lent : List ℕ) → lent ≡ take (length raw - 1) raw → length lent ≡ 0
    → raw ≡ body ++ 10 ∷ [] → lent ≡ without_cr body
text_of_none raw body lent is none ends =
    let same : lent ≡ body = is ∙ front_of raw body 10 ends in
    nothing_there lent body same none
  where
    nothing_there : (xs ys : List ℕ) → xs ≡ ys → length xs ≡ 0 → xs ≡ without_cr ys
    nothing_there [] ys same none = ap without_cr same
    nothing_there (x ∷ xs) ys same none = absurd (omega (arith, none))

pub text_of_cr : (raw body lent front : List ℕ) (last : ℕ) → lent ≡ take (length raw - 1) raw
    → lent ≡ front ++ last ∷ [] → last ≡ 13 → raw ≡ body ++ 10 ∷ [] → front ≡ without_cr body
text_of_cr raw body lent front last is parts cr ends =
    let same : body ≡ front ++ 13 ∷ [] =
    sym (front_of raw body 10 ends) ∙ sym is ∙ parts ∙ ap (λ b. front ++ b ∷ []) cr in
    sym (cr_taken front) ∙ ap without_cr (sym same)

pub text_of_other : (raw body lent front : List ℕ) (last : ℕ) → lent ≡ take (length raw - 1) raw
    → lent ≡ front ++ last ∷ [] → nat_eq last 13 ≡ false → raw ≡ body ++ 10 ∷ [] → lent ≡ without_cr body
text_of_other raw body lent front last is parts other ends =
    let same : body ≡ front ++ last ∷ [] = sym (front_of raw body 10 ends) ∙ sym is ∙ parts in
    parts ∙ sym (other_kept front last other) ∙ ap without_cr (sym same)

-- ---- a plan that fits

-- what its parts are set up with
pub record SetUp (plan : Plan) : Type 0 where
  pub parts : IsFitting plan
  pub writes : writes_columns plan.format plan.columns ≡ true
  pub accepted : first_refused plan.steps plan.columns ≡ None

none_refused : {A : Type 0} (o : Option A) → is_none o ≡ true → o ≡ None
none_refused None none = refl
none_refused (Some x) none = absurd (cc)

pub set_up : (plan : Plan) → is_fitting plan ≡ true → SetUp plan
set_up plan fits = let parts = (fits_in_parts plan).0 fits in record {
  parts = parts;
  writes = read_is_written plan.format plan.columns parts.reads;
  accepted = none_refused (first_refused plan.steps plan.columns) parts.steps;
}

-- the rows that a text is, of the plan's columns
pub rows_conform : (plan : Plan) → is_fitting plan ≡ true → (text : List ℕ)
    → all_made (conforms plan.columns) (line_rows plan.format plan.columns text) ≡ true
rows_conform plan fits text = (format_keeps plan.format plan.columns).rows text (set_up plan fits).writes

-- and behind the steps
pub behind_conform : (plan : Plan) → is_fitting plan ≡ true → (text : List ℕ) (rows : List Row)
    → rows_of_text plan text ≡ Some rows
    → list_all (conforms (columns_through plan.steps plan.columns)) rows ≡ true
behind_conform plan fits text rows is =
    let up = set_up plan fits in
    let keep = (steps_keep plan.steps plan.columns).rows in
    all_of_made (conforms (columns_through plan.steps plan.columns)) (rows_of_text plan text) rows is
    (all_made-then_each (conforms plan.columns) (conforms (columns_through plan.steps plan.columns))
    (chain_rows plan.steps plan.columns) (λ row fit. keep row up.parts.columns up.accepted fit)
    (line_rows plan.format plan.columns text) (rows_conform plan fits text))

-- how many steps there are
pub few_steps : (own plan : Plan) → own ≡ plan → is_fitting plan ≡ true → length own.steps < 2 ^ 32
few_steps own plan same fits =
    let few = leb-true (length own.steps) max_steps (ap (λ (p : Plan). nat_le (length p.steps) max_steps) same
    ∙ (set_up plan fits).parts.few_steps) in
    omega (arith, few)

pub steps_accepted : (own plan : Plan) → own ≡ plan → is_fitting plan ≡ true
    → first_refused own.steps plan.columns ≡ None
steps_accepted own plan same fits = ap (λ (p : Plan). first_refused p.steps plan.columns) same
    ∙ (set_up plan fits).accepted

-- the columns behind the chain of the plan's steps
pub columns_sent : (own plan : Plan) (chain : ChainValue) (after : List Column) → own ≡ plan → after ≡ after_chain chain
    → chain ≡ record { steps = own.steps; before = plan.columns } → after ≡ columns_through plan.steps plan.columns
columns_sent own plan chain after same behind is = behind ∙ ap after_chain is
    ∙ ap (λ (p : Plan). columns_through p.steps plan.columns) same

pub tests_fit : (plan : Plan) (after : List Column) → is_fitting plan ≡ true
    → after ≡ columns_through plan.steps plan.columns
    → list_all (λ t. test_fits t after) plan.fork.tests ≡ true
tests_fit plan after fits is = ap (λ cs. list_all (λ t. test_fits t cs) plan.fork.tests) is
    ∙ (set_up plan fits).parts.tests

pub few_branches : (plan : Plan) (lent : List BranchSpec) → is_fitting plan ≡ true → lent ≡ plan.branches
    → length lent ≤ 8
few_branches plan lent fits is =
    let parts = (set_up plan fits).parts in
    let few = leb-true plan.fork.branches max_branches
    (and_parts (nat_le 1 plan.fork.branches) (nat_le plan.fork.branches max_branches) parts.some_branches).1 in
    let many : length lent ≡ plan.fork.branches = ap length is ∙ parts.as_many_branches in
    omega (arith, few, many)

pub branches_fit : (plan : Plan) (after : List Column) (lent : List BranchSpec) → is_fitting plan ≡ true
    → after ≡ columns_through plan.steps plan.columns → lent ≡ plan.branches
    → list_all (branch_fits after) lent ≡ true
branches_fit plan after lent fits behind is = ap (list_all (branch_fits after)) is
    ∙ ap (λ cs. list_all (branch_fits cs) plan.branches) behind ∙ (set_up plan fits).parts.branches

pub branches_short : (plan : Plan) (lent : List BranchSpec) → is_fitting plan ≡ true → lent ≡ plan.branches
    → list_all branch_is_short lent ≡ true
branches_short plan lent fits is = ap (list_all branch_is_short) is ∙ (set_up plan fits).parts.short_branches

-- ---- a line

header_made : (plan : Plan) (offset : ℕ) (line : Line) → (plan.skip_header && nat_eq offset 0) ≡ true
    → line_made plan offset line ≡ nothing
unfolding line_made
header_made plan offset line head = rw head refl

pub header_makes : (plan : Plan) (offset : ℕ) (raw : List ℕ) → (plan.skip_header && nat_eq offset 0) ≡ true
    → LineMakes plan offset raw nothing
header_makes plan offset raw head line is = header_made plan offset line head

record_made : (plan : Plan) (offset : ℕ) (line : Line) → (plan.skip_header && nat_eq offset 0) ≡ false
    → line_made plan offset line ≡ text_makes plan (text_of line) (raw_of line)
unfolding line_made
record_made plan offset line head = rw head refl

pub text_is_made : (plan : Plan) (offset : ℕ) (raw text : List ℕ) (l : LineMade)
    → (plan.skip_header && nat_eq offset 0) ≡ false
    → ((body : List ℕ) → raw ≡ body ++ 10 ∷ [] → text ≡ without_cr body) → text_makes plan text raw ≡ l
    → LineMakes plan offset raw l
text_is_made plan offset raw text l head cut makes line is =
    record_made plan offset line head ∙ ap (λ t. text_makes plan t (raw_of line)) (sym (cut line.body (sym is)))
    ∙ ap (text_makes plan text) is ∙ makes

-- ---- rows

pub made_text : (plan : Plan) (text : List ℕ) (rows : List Row) (items : List RowMade) (count unrouted : ℕ)
    → rows_of_text plan text ≡ Some rows → made_each (route_makes (routes_of plan)) rows ≡ Some items
    → count ≡ length rows → unrouted ≡ length (filter (is_left (routes_of plan)) rows)
    → MadeText plan text items count unrouted
made_text plan text rows items count unrouted read routed many left raw =
    rw (read, routed, many, left) refl

pub bad_text : (plan : Plan) (text : List ℕ) → rows_of_text plan text ≡ None → BadText plan text
bad_text plan text read raw = rw read refl

pub bad_rows : (plan : Plan) (text : List ℕ) (rows : List Row) → rows_of_text plan text ≡ Some rows
    → made_each (route_makes (routes_of plan)) rows ≡ None → BadText plan text
bad_rows plan text rows read routed raw = rw (read, routed) refl

-- without steps the rows stay as they are
pub no_steps : (plan : Plan) (text : List ℕ) (rows : List Row) → plan.steps ≡ []
    → line_rows plan.format plan.columns text ≡ Some rows → rows_of_text plan text ≡ Some rows
no_steps plan text rows none read = ap (then_each (chain_rows plan.steps plan.columns)) read
    ∙ ap (λ ss. made_each (chain_rows ss plan.columns) rows) none ∙ made_each-same rows

-- what a decoder set up as the plan says read
pub decoded : (plan : Plan) (format : Format) (columns : List Column) (text : List ℕ) (old rows : List Row)
    → format ≡ plan.format → columns ≡ plan.columns → old ≡ []
    → concatenation (Some old) (line_rows format columns text) ≡ Some rows
    → line_rows plan.format plan.columns text ≡ Some rows
decoded plan format columns text old rows format_is columns_are none read =
    ap (λ f. line_rows f plan.columns text) (sym format_is) ∙ ap (λ cs. line_rows format cs text) (sym columns_are)
    ∙ sym (joined-nothing (line_rows format columns text))
    ∙ ap (λ o. concatenation (Some o) (line_rows format columns text)) (sym none) ∙ read

pub decoded_conform : (plan : Plan) (chain : ChainValue) (text : List ℕ) (rows : List Row) → is_fitting plan ≡ true
    → chain ≡ chain_of plan → line_rows plan.format plan.columns text ≡ Some rows
    → list_all (conforms chain.before) rows ≡ true
decoded_conform plan chain text rows fits is read =
    ap (λ (v : ChainValue). list_all (conforms v.before) rows) is
    ∙ all_of_made (conforms plan.columns) (line_rows plan.format plan.columns text) rows read
    (rows_conform plan fits text)

pub kept : (own plan : Plan) (chain : ChainValue) (text : List ℕ) (rows : List Row) → own ≡ plan → chain ≡ chain_of own
    → chain.steps ≡ [] → line_rows own.format own.columns text ≡ Some rows → rows_of_text plan text ≡ Some rows
kept own plan chain text rows same is none read = subst (λ (p : Plan). rows_of_text p text ≡ Some rows) same
    (no_steps own text rows (sym (ap (λ (v : ChainValue). v.steps) is) ∙ none) read)

-- ---- rows that are sent

pub sent_conform : (own plan : Plan) (routes : RoutesValue) (text : List ℕ) (rows : List Row) → own ≡ plan
    → is_fitting own ≡ true → routes ≡ routes_of own → rows_of_text plan text ≡ Some rows
    → list_all (conforms routes.columns) rows ≡ true
sent_conform own plan routes text rows same fits is read =
    ap (λ (r : RoutesValue). list_all (conforms r.columns) rows) (is ∙ ap routes_of same)
    ∙ behind_conform plan (subst (λ (p : Plan). is_fitting p ≡ true) same fits) text rows read

sent_from_none : (routes plan_routes : RoutesValue) (rows : List Row) (old : List RowMade) (m : Made RowMade)
    → routes ≡ plan_routes → old ≡ [] → concatenation (Some old) (made_each (route_makes routes) rows) ≡ m
    → made_each (route_makes plan_routes) rows ≡ m
sent_from_none routes plan_routes rows old m same none sent =
    ap (λ (r : RoutesValue). made_each (route_makes r) rows) (sym same)
    ∙ sym (joined-nothing (made_each (route_makes routes) rows))
    ∙ ap (λ o. concatenation (Some o) (made_each (route_makes routes) rows)) (sym none) ∙ sent

pub made_here : (own plan : Plan) (routes : RoutesValue) (text : List ℕ) (rows : List Row) (old items : List RowMade)
    (count unrouted : ℕ) → own ≡ plan → routes ≡ routes_of own → old ≡ [] → rows_of_text plan text ≡ Some rows
    → concatenation (Some old) (made_each (route_makes routes) rows) ≡ Some items → count ≡ length rows
    → unrouted ≡ length (filter (is_left routes) rows) → MadeText plan text items count unrouted
made_here own plan routes text rows old items count unrouted same is none read sent many left =
    let routes_are : routes ≡ routes_of plan = is ∙ ap routes_of same in
    made_text plan text rows items count unrouted read
    (sent_from_none routes (routes_of plan) rows old (Some items) routes_are none sent) many
    (left ∙ ap (λ (r : RoutesValue). length (filter (is_left r) rows)) routes_are)

pub bad_here : (own plan : Plan) (routes : RoutesValue) (text : List ℕ) (rows : List Row) (old : List RowMade)
    → own ≡ plan → routes ≡ routes_of own → old ≡ [] → rows_of_text plan text ≡ Some rows
    → concatenation (Some old) (made_each (route_makes routes) rows) ≡ None → BadText plan text
bad_here own plan routes text rows old same is none read sent =
    bad_rows plan text rows read
    (sent_from_none routes (routes_of plan) rows old None (is ∙ ap routes_of same) none sent)

-- ---- one row more

pub rest_conform : (columns : List Column) (row : Row) (left rest : List Row) → left ≡ row ∷ rest
    → list_all (conforms columns) left ≡ true → list_all (conforms columns) rest ≡ true
rest_conform columns row left rest is all = (and_parts (conforms columns row) (list_all (conforms columns) rest)
    (ap (list_all (conforms columns)) (sym is) ∙ all)).1

pub sent_next : (r : RoutesValue) (row : Row) (left rest : List Row) (now next : List RowMade) (whole : Made RowMade)
    → left ≡ row ∷ rest → concatenation (Some now) (made_each (route_makes r) left) ≡ whole
    → concatenation (Some now) (route_makes r row) ≡ Some next
    → concatenation (Some next) (made_each (route_makes r) rest) ≡ whole
sent_next r row left rest now next whole is so_far sent =
    ap (λ m. concatenation m (made_each (route_makes r) rest)) (sym sent)
    ∙ joined-assoc (Some now) (route_makes r row) (made_each (route_makes r) rest)
    ∙ ap (λ l. concatenation (Some now) (made_each (route_makes r) l)) (sym is) ∙ so_far

pub left_one : (r : RoutesValue) (row : Row) (left rest : List Row) (n total : ℕ) → left ≡ row ∷ rest
    → is_routed r row ≡ false → n + length (filter (is_left r) left) ≡ total
    → n + 1 + length (filter (is_left r) rest) ≡ total
left_one r row left rest n total is alone so_far =
    let one : length (filter (is_left r) left) ≡ suc (length (filter (is_left r) rest)) =
    ap (λ l. length (filter (is_left r) l)) is
    ∙ ap (λ t. length (cond (not t) (row ∷ filter (is_left r) rest) (filter (is_left r) rest))) alone in
    omega (arith, one, so_far)

pub left_as_many : (r : RoutesValue) (row : Row) (left rest : List Row) (n total : ℕ) → left ≡ row ∷ rest
    → is_routed r row ≡ true → n + length (filter (is_left r) left) ≡ total
    → n + length (filter (is_left r) rest) ≡ total
left_as_many r row left rest n total is taken so_far =
    let same : length (filter (is_left r) left) ≡ length (filter (is_left r) rest) =
    ap (λ l. length (filter (is_left r) l)) is
    ∙ ap (λ t. length (cond (not t) (row ∷ filter (is_left r) rest) (filter (is_left r) rest))) taken in
    omega (arith, same, so_far)

pub left_few : (r : RoutesValue) (rows : List Row) (n k : ℕ) → n + 1 + k ≡ length (filter (is_left r) rows)
    → length rows < 2 ^ 63 → n + 1 < 2 ^ 64
left_few r rows n k is few =
    let below = count_by-le-length (is_left r) rows in
    let counted = length-filter (is_left r) rows in
    omega (arith, is, few, below, counted)
