-- A list of calls with one more.
use Rattle.std.proofs.Common.{◌≡◌, ℕ, ◌+◌, ◌≤◌, List, [], ◌∷◌, ◌++◌, length, take, drop, length-append, refl, sym, ap}
use Rattle.std.proofs.Common.{◌∙◌, take-append-drop, arith}
use Rattle.std.proofs.lemmas.List.{take-append-le, drop-append-le, drop_all}
use Rattle.gob_device.specs.Disk.{Files, no_files}
use Rattle.gob_volume.specs.Calls.{map_after, maps_after, map_step_of, trail_of}
use Rattle.gob_volume.specs.Replay.{IsReplayed}
use Rattle.gob_volume.specs.declared.calls.Call.{Call}

map-split : (m : Files) (front back : List Call) → map_after (map_after m front) back ≡ map_after m (front ++ back)
map-split m [] back = refl
map-split m (c ∷ front) back = map-split (map_step_of c m) front back

maps-more : (m : Files) (calls : List Call) (call : Call) → maps_after m (calls ++ call ∷ []) ≡ maps_after m calls
    ++ map_step_of call (map_after m calls) ∷ []
maps-more m [] call = refl
maps-more m (c ∷ calls) call = ap (λ ms. map_step_of c m ∷ ms) (maps-more (map_step_of c m) calls call)

-- the map after all calls, which is the one that is replayed
replays : (m : Files) (calls : List Call) (since : ℕ) → IsReplayed m calls since → m ≡ map_after no_files calls
replays m calls since at = λ i name. at.agrees name i

-- one call more is one map more
pub trail-more : {m : Files} {calls : List Call} {since : ℕ} (call : Call) → IsReplayed m calls since
    → trail_of (calls ++ call ∷ []) since ≡ trail_of calls since ++ map_step_of call m ∷ []
unfolding trail_of
trail-more {m} {calls} {since} call at =
    let base : Files = map_after no_files (take since calls) in
    let whole : map_after base (drop since calls) ≡ m =
    map-split no_files (take since calls) (drop since calls) ∙ ap (map_after no_files) (take-append-drop since calls)
    ∙ sym (replays m calls since at) in
    ap (λ front. maps_after (map_after no_files front) (drop since (calls ++ call ∷ [])))
    (take-append-le since calls (call ∷ []) at.within)
    ∙ ap (maps_after base) (drop-append-le since calls (call ∷ []) at.within)
    ∙ maps-more base (drop since calls) call
    ∙ ap (λ n. maps_after base (drop since calls) ++ map_step_of call n ∷ []) whole

pub replayed-more : {m n : Files} {calls : List Call} {since : ℕ} (call : Call) → IsReplayed m calls since
    → n ≡ map_step_of call m → IsReplayed n (calls ++ call ∷ []) since
replayed-more {m} {n} {calls} {since} call at is = record {
  agrees = λ name.
      let all : n ≡ map_after no_files (calls ++ call ∷ []) = is
      ∙ (ap (map_step_of call) (replays m calls since at) ∙ map-split no_files calls (call ∷ [])) in
      λ i. all i name;
  within = omega (arith, at.within, length-append calls (call ∷ []));
}

-- a trail that begins anew
pub trail-anew : (calls : List Call) → trail_of calls (length calls) ≡ []
unfolding trail_of
trail-anew calls = ap (maps_after (map_after no_files (take (length calls) calls)))
    (drop_all (length calls) calls (omega arith))
