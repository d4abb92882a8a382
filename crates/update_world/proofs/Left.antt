-- The contents that a crash can leave after one more call.
use Rattle.std.proofs.Common.{◌≡◌, ◌+◌, ◌-◌, ◌≤◌, ℕ, zero, suc, false, arith, List, [], ◌∷◌, ◌++◌, length, map, take, drop, refl, sym, ap, ◌∙◌, append-nil, cond, length-append, take-append-drop}
use Rattle.std.specs.List.{range_with_len}
use Rattle.std.proofs.lemmas.List.{map-append, take-append-le}
use Rattle.std.proofs.Math.Seq.{take-length}
use Rattle.tree_face.specs.Disk.{Content}
use Rattle.tree_face.specs.declared.disk.Call.{Call}
use Rattle.tree_face.specs.declared.disk.Call.TheVariants.{Publish, Settle}
use Rattle.update_world.specs.declared.post.Post.{Post}
use Rattle.update_world.specs.Turns.{PostCall, is_publish, is_settle, left_by, publishers, reading, until_settled}
use Rattle.update_world.proofs.Calls.{publishers_more, settled_before, settled_now}

abbrev settled_of : List PostCall → ℕ
settled_of cs = length (publishers (until_settled cs))

range_more : (s k : ℕ) → range_with_len s (suc k) ≡ range_with_len s k ++ (s + k) ∷ []
range_more s zero = ap (λ n. n ∷ []) (let e : s ≡ s + 0 = omega (arith) in e)
range_more s (suc k) = ap (λ l. s ∷ l) (range_more (s + 1) k ∙ ap (λ n. range_with_len (s + 1) k ++ n ∷ []) (let e : (s + 1) + k ≡ s + suc k = omega (arith) in e))

pub mapped_more : {X : Type 0} (f : ℕ → X) (s n : ℕ) → s ≤ n → map f (range_with_len s (n + 1 - s)) ≡ map f (range_with_len s (n - s)) ++ f n ∷ []
mapped_more f s n h =
    let one : n + 1 - s ≡ suc (n - s) = omega (arith, h) in
    let last : s + (n - s) ≡ n = omega (arith, h) in
    ap (λ k. map f (range_with_len s k)) one ∙ ap (map f) (range_more s (n - s)) ∙ map-append f (range_with_len s (n - s)) _ ∙ ap (λ k. map f (range_with_len s (n - s)) ++ f k ∷ []) last

part_most : (k : ℕ) (cs : List PostCall) → length (publishers (take k cs)) ≤ length (publishers cs)
part_most k cs =
    let whole = ap (λ l. length (publishers l)) (sym (take-append-drop k cs)) ∙ ap (λ (l : List ℕ). length l) (publishers_more (take k cs) (drop k cs)) ∙ length-append (publishers (take k cs)) (publishers (drop k cs)) in
    omega (arith, whole)

-- the number of renames before the last directory fsync is at most the number of all renames
pub settled_most : (cs : List PostCall) → settled_of cs ≤ length (publishers cs)
settled_most cs = part_most _ cs

module _ (first : Content) (posts : List Post) where
  -- one more rename doesn't change the readings after the earlier renames
  readings_stay : (all : List ℕ) (i s k : ℕ) → s + k ≤ length all + 1
      → map (λ n. reading first posts (take n (all ++ i ∷ []))) (range_with_len s k) ≡ map (λ n. reading first posts (take n all)) (range_with_len s k)
  readings_stay all i s zero h = refl
  readings_stay all i s (suc k) h =
      ap (λ ps. reading first posts ps ∷ map (λ n. reading first posts (take n (all ++ i ∷ []))) (range_with_len (s + 1) k)) (take-append-le s all (i ∷ []) (omega (arith, h)))
      ∙ ap (λ l. reading first posts (take s all) ∷ l) (readings_stay all i (s + 1) k (omega (arith, h)))

  module _ (cs : List PostCall) (i : ℕ) where
    pub none_more : (call : Call) → is_publish call ≡ false → publishers (cs ++ (i, call) ∷ []) ≡ publishers cs
    none_more call e = publishers_more cs ((i, call) ∷ []) ∙ ap (λ b. publishers cs ++ map (λ (c : PostCall). c.0) (cond b ((i, call) ∷ []) [])) e ∙ append-nil _

    -- the call is not a rename (`Publish`) and not a directory fsync (`Settle`)
    pub left_same : (call : Call) → is_publish call ≡ false → is_settle call ≡ false → left_by first posts (cs ++ (i, call) ∷ []) ≡ left_by first posts cs
    left_same call none before =
        ap (λ (all : List ℕ). map (λ n. reading first posts (take n all)) (range_with_len (settled_of (cs ++ (i, call) ∷ [])) (length all + 1 - settled_of (cs ++ (i, call) ∷ [])))) (none_more call none)
        ∙ ap (λ (u : List PostCall). map (λ n. reading first posts (take n (publishers cs))) (range_with_len (length (publishers u)) (length (publishers cs) + 1 - length (publishers u)))) (settled_before cs (i, call) before)

    -- the call is a rename
    pub left_more : left_by first posts (cs ++ (i, Publish) ∷ []) ≡ left_by first posts cs ++ reading first posts (publishers cs ++ i ∷ []) ∷ []
    left_more =
        ap (λ (u : List PostCall). map (λ n. reading first posts (take n (publishers (cs ++ (i, Publish) ∷ [])))) (range_with_len (length (publishers u)) (length (publishers (cs ++ (i, Publish) ∷ [])) + 1 - length (publishers u)))) (settled_before cs (i, Publish) refl)
        ∙ ap (λ (all : List ℕ). map (λ n. reading first posts (take n all)) (range_with_len (settled_of cs) (length all + 1 - settled_of cs))) (publishers_more cs ((i, Publish) ∷ []))
        ∙ by (publishers cs) (settled_of cs) (settled_most cs)
      where
        by : (all : List ℕ) (s : ℕ) → s ≤ length all
            → map (λ n. reading first posts (take n (all ++ i ∷ []))) (range_with_len s (length (all ++ i ∷ []) + 1 - s)) ≡ map (λ n. reading first posts (take n all)) (range_with_len s (length all + 1 - s)) ++ reading first posts (all ++ i ∷ []) ∷ []
        by all s h =
            let longer = length-append all (i ∷ []) in
            let one : length (all ++ i ∷ []) + 1 - s ≡ suc (length all + 1 - s) = omega (arith, longer, h) in
            let last : s + (length all + 1 - s) ≡ length (all ++ i ∷ []) = omega (arith, longer, h) in
            ap (λ k. map (λ n. reading first posts (take n (all ++ i ∷ []))) (range_with_len s k)) one
            ∙ ap (map (λ n. reading first posts (take n (all ++ i ∷ [])))) (range_more s (length all + 1 - s))
            ∙ map-append (λ n. reading first posts (take n (all ++ i ∷ []))) (range_with_len s (length all + 1 - s)) _
            ∙ ap (λ l. l ++ reading first posts (take (s + (length all + 1 - s)) (all ++ i ∷ [])) ∷ []) (readings_stay all i s (length all + 1 - s) (omega (arith, h)))
            ∙ ap (λ ps. map (λ n. reading first posts (take n all)) (range_with_len s (length all + 1 - s)) ++ reading first posts ps ∷ []) (ap (λ k. take k (all ++ i ∷ [])) last ∙ take-length (all ++ i ∷ []))

    -- the call is a directory fsync
    pub left_alone : left_by first posts (cs ++ (i, Settle) ∷ []) ≡ reading first posts (publishers cs) ∷ []
    left_alone =
        ap (λ (u : List PostCall). map (λ n. reading first posts (take n (publishers (cs ++ (i, Settle) ∷ [])))) (range_with_len (length (publishers u)) (length (publishers (cs ++ (i, Settle) ∷ [])) + 1 - length (publishers u)))) (settled_now cs (i, Settle) refl)
        ∙ ap (λ (all : List ℕ). map (λ n. reading first posts (take n all)) (range_with_len (length all) (length all + 1 - length all))) (none_more Settle refl)
        ∙ by (publishers cs)
      where
        by : (all : List ℕ) → map (λ n. reading first posts (take n all)) (range_with_len (length all) (length all + 1 - length all)) ≡ reading first posts all ∷ []
        by all =
            let one : length all + 1 - length all ≡ 1 = omega (arith) in
            ap (λ k. map (λ n. reading first posts (take n all)) (range_with_len (length all) k)) one ∙ ap (λ ps. reading first posts ps ∷ []) (take-length all)
