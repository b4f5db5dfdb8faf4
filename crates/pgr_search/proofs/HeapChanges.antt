-- Where the entries of vertices stand after a vertex came in, had its key lowered, or went out.
use Rattle.std.proofs.Common.{◌≡◌, ℕ, zero, suc, ◌+◌, ◌-◌, ◌<◌, ◌≤◌, ◌⊎◌, inl, inr, cond, List, [], ◌∷◌, ◌++◌, Option, Some, None, length, get_or, set, replicate, refl, sym, ap, ◌∙◌, arith}
use Rattle.std.specs.Option.{is_some}
use Rattle.std.specs.List.{count_by}
use Rattle.std.proofs.lemmas.Bool.{cases_eq}
use Rattle.std.proofs.lemmas.List.{get_or-set_same, get_or-set_other, length-set, length-append, length-replicate, get_or-replicate, same_lists, get_or_default}
use Rattle.std.proofs.lemmas.List.Sums.{sum_by-set, count_by-le-length}
use Rattle.pgr_search.specs.declared.heap.Waiting.{Waiting}
use Rattle.pgr_search.specs.Heap.{key_at, key_in, vertex_in, place_at, ArePlaced}
use Rattle.pgr_search.proofs.Entries.{key_in-some, key_in-set_same, key_in-set_other, vertex_in-set_same, vertex_in-set_other, key_in-push_last, key_in-push_other, vertex_in-push_last, vertex_in-push_other}

module _ {K : Type 0} where
  -- how many vertices wait after the key of one was set
  count_more : (keys : List (Option K)) (v : ℕ) (key : K) → v < length keys → key_at keys v ≡ None → count_by is_some (set keys v (Some key)) ≡ count_by is_some keys + 1
  count_more keys v key below free =
      let more = sum_by-set (λ (o : Option K). cond (is_some o) 1 0) keys v (Some key) None below in
      let none : ◌≡◌ {A = ℕ} (cond (is_some (get_or keys v None)) 1 0) 0 = ap (λ (o : Option K). cond (is_some o) 1 0) free in
      omega (arith, more, none)

  count_same : (keys : List (Option K)) (v : ℕ) (old key : K) → v < length keys → key_at keys v ≡ Some old → count_by is_some (set keys v (Some key)) ≡ count_by is_some keys
  count_same keys v old key below has =
      let more = sum_by-set (λ (o : Option K). cond (is_some o) 1 0) keys v (Some key) None below in
      let one : ◌≡◌ {A = ℕ} (cond (is_some (get_or keys v None)) 1 0) 1 = ap (λ (o : Option K). cond (is_some o) 1 0) has in
      omega (arith, more, one)

  count_fewer : (keys : List (Option K)) (v : ℕ) (old : K) → v < length keys → key_at keys v ≡ Some old → count_by is_some (set keys v None) + 1 ≡ count_by is_some keys
  count_fewer keys v old below has =
      let more = sum_by-set (λ (o : Option K). cond (is_some o) 1 0) keys v None None below in
      let one : ◌≡◌ {A = ℕ} (cond (is_some (get_or keys v None)) 1 0) 1 = ap (λ (o : Option K). cond (is_some o) 1 0) has in
      omega (arith, more, one)

  module _ (keys : List (Option K)) (places : List ℕ) (entries : List (Waiting K)) (h : ArePlaced keys places entries) where
    -- the entries are at most as many as the vertices, and fewer where one doesn't wait
    pub few : length entries ≤ length keys
    few = omega (arith, h.counted, count_by-le-length is_some keys)

    pub fewer : (v : ℕ) (key : K) → v < length keys → place_at places v ≡ 0 → length entries < length keys
    fewer v key below free =
        omega (arith, h.counted, count_more keys v key below (h.gone v free), count_by-le-length is_some (set keys v (Some key)), length-set keys v (Some key))

    -- a vertex that waits has a key
    waits : (v at : ℕ) → place_at places v ≡ at + 1 → (old : K) × (key_at keys v ≡ Some old)
    waits v at is =
        let some = key_in-some entries at (h.back v at is) in
        (some.0, ap (key_at keys) (sym (h.same v at is)) ∙ h.stands at (h.back v at is) ∙ some.1)

    -- two vertices have no place in common
    other_vertex : (v at p : ℕ) → place_at places v ≡ at + 1 → p < length entries → (p ≡ at → ⊥) → vertex_in entries p ≡ v → ⊥
    other_vertex v at p is lt differs e = differs (omega (arith, h.there p lt, ap (place_at places) e, is))

    other_place : (u v at p : ℕ) → place_at places v ≡ at + 1 → place_at places u ≡ p + 1 → (u ≡ v → ⊥) → p ≡ at → ⊥
    other_place u v at p is there differs e = differs (sym (h.same u p there) ∙ ap (vertex_in entries) e ∙ h.same v at is)

    waits_inside : (v at : ℕ) → place_at places v ≡ at + 1 → v < length keys
    waits_inside v at is = omega (arith, h.inside at (h.back v at is), h.same v at is)

    -- an entry comes in at the end
    module _ (entry : Waiting K) (below : entry.vertex < length keys) (free : place_at places entry.vertex ≡ 0) where
      in_list : length (entries ++ entry ∷ []) ≡ length entries + 1
      in_list = length-append entries (entry ∷ [])

      apart_in : (p : ℕ) → p < length entries → vertex_in entries p ≡ entry.vertex → ⊥
      apart_in p lt e = omega (arith, h.there p lt, ap (place_at places) e, free)

      here_in : place_at (set places entry.vertex (length entries + 1)) entry.vertex ≡ length entries + 1
      here_in = get_or-set_same places entry.vertex (length entries + 1) 0 (omega (arith, h.size))

      there_in : (v : ℕ) → (v ≡ entry.vertex → ⊥) → place_at (set places entry.vertex (length entries + 1)) v ≡ place_at places v
      there_in v differs = get_or-set_other places entry.vertex v (length entries + 1) 0 differs

      inside_in : (p : ℕ) → p < length entries + 1 → (p ≡ length entries) ⊎ (p ≡ length entries → ⊥) → vertex_in (entries ++ entry ∷ []) p < length keys
      inside_in p lt (inl e) = omega (arith, ap (vertex_in (entries ++ entry ∷ [])) e, vertex_in-push_last entries entry, below)
      inside_in p lt (inr f) = omega (arith, vertex_in-push_other entries entry p (omega arith), h.inside p (omega arith))

      placed_in : (p : ℕ) → p < length entries + 1 → (p ≡ length entries) ⊎ (p ≡ length entries → ⊥)
          → place_at (set places entry.vertex (length entries + 1)) (vertex_in (entries ++ entry ∷ []) p) ≡ p + 1
      placed_in p lt (inl e) =
          ap (λ q. place_at (set places entry.vertex (length entries + 1)) (vertex_in (entries ++ entry ∷ []) q)) e
          ∙ ap (place_at (set places entry.vertex (length entries + 1))) (vertex_in-push_last entries entry) ∙ here_in ∙ ap (λ q. q + 1) (sym e)
      placed_in p lt (inr f) =
          let less : p < length entries = omega arith in
          ap (place_at (set places entry.vertex (length entries + 1))) (vertex_in-push_other entries entry p less)
          ∙ there_in (vertex_in entries p) (apart_in p less) ∙ h.there p less

      stands_in : (p : ℕ) → p < length entries + 1 → (p ≡ length entries) ⊎ (p ≡ length entries → ⊥)
          → key_at (set keys entry.vertex (Some entry.key)) (vertex_in (entries ++ entry ∷ []) p) ≡ key_in (entries ++ entry ∷ []) p
      stands_in p lt (inl e) =
          ap (λ q. key_at (set keys entry.vertex (Some entry.key)) (vertex_in (entries ++ entry ∷ []) q)) e
          ∙ ap (key_at (set keys entry.vertex (Some entry.key))) (vertex_in-push_last entries entry) ∙ get_or-set_same keys entry.vertex (Some entry.key) None below
          ∙ sym (key_in-push_last entries entry) ∙ ap (key_in (entries ++ entry ∷ [])) (sym e)
      stands_in p lt (inr f) =
          let less : p < length entries = omega arith in
          ap (key_at (set keys entry.vertex (Some entry.key))) (vertex_in-push_other entries entry p less)
          ∙ get_or-set_other keys entry.vertex (vertex_in entries p) (Some entry.key) None (apart_in p less) ∙ h.stands p less ∙ sym (key_in-push_other entries entry p less)

      back_in : (v p : ℕ) → place_at (set places entry.vertex (length entries + 1)) v ≡ p + 1 → (v ≡ entry.vertex) ⊎ (v ≡ entry.vertex → ⊥)
          → (p < length entries + 1) × (vertex_in (entries ++ entry ∷ []) p ≡ v)
      back_in v p is (inl e) =
          let at : p ≡ length entries = omega (arith, is, ap (place_at (set places entry.vertex (length entries + 1))) e, here_in) in
          (omega arith, ap (vertex_in (entries ++ entry ∷ [])) at ∙ vertex_in-push_last entries entry ∙ sym e)
      back_in v p is (inr f) =
          let before : place_at places v ≡ p + 1 = sym (there_in v f) ∙ is in
          let less = h.back v p before in
          (omega (arith, less), vertex_in-push_other entries entry p less ∙ h.same v p before)

      gone_in : (v : ℕ) → place_at (set places entry.vertex (length entries + 1)) v ≡ 0 → (v ≡ entry.vertex) ⊎ (v ≡ entry.vertex → ⊥)
          → key_at (set keys entry.vertex (Some entry.key)) v ≡ None
      gone_in v is (inl e) = absurd (omega (arith, is, ap (place_at (set places entry.vertex (length entries + 1))) e, here_in))
      gone_in v is (inr f) = get_or-set_other keys entry.vertex v (Some entry.key) None f ∙ h.gone v (sym (there_in v f) ∙ is)

      pub entered : ArePlaced (set keys entry.vertex (Some entry.key)) (set places entry.vertex (length entries + 1)) (entries ++ entry ∷ [])
      entered = record {
        small = omega (arith, h.small, length-set keys entry.vertex (Some entry.key));
        size = length-set places entry.vertex (length entries + 1) ∙ h.size ∙ sym (length-set keys entry.vertex (Some entry.key));
        counted = omega (arith, in_list, h.counted, count_more keys entry.vertex entry.key below (h.gone entry.vertex free));
        inside = λ p lt. omega (arith, inside_in p (omega (arith, lt, in_list)) (cases_eq p (length entries)), length-set keys entry.vertex (Some entry.key));
        there = λ p lt. placed_in p (omega (arith, lt, in_list)) (cases_eq p (length entries));
        stands = λ p lt. stands_in p (omega (arith, lt, in_list)) (cases_eq p (length entries));
        back = λ v p is. omega (arith, (back_in v p is (cases_eq v entry.vertex)).0, in_list);
        same = λ v p is. (back_in v p is (cases_eq v entry.vertex)).1;
        gone = λ v is. gone_in v is (cases_eq v entry.vertex);
      }

    -- the entry of a vertex that waits is written anew, with another key
    module _ (entry : Waiting K) (at : ℕ) (is_at : place_at places entry.vertex ≡ at + 1) where
      lt_low : at < length entries
      lt_low = h.back entry.vertex at is_at

      in_low : entry.vertex < length keys
      in_low = waits_inside entry.vertex at is_at

      vertex_low : (p : ℕ) → (p ≡ at) ⊎ (p ≡ at → ⊥) → vertex_in (set entries at entry) p ≡ vertex_in entries p
      vertex_low p (inl e) =
          ap (vertex_in (set entries at entry)) e ∙ vertex_in-set_same entries at entry lt_low ∙ sym (h.same entry.vertex at is_at) ∙ ap (vertex_in entries) (sym e)
      vertex_low p (inr f) = vertex_in-set_other entries at p entry f

      place_low : (v : ℕ) → (v ≡ entry.vertex) ⊎ (v ≡ entry.vertex → ⊥) → place_at (set places entry.vertex (at + 1)) v ≡ place_at places v
      place_low v (inl e) =
          ap (place_at (set places entry.vertex (at + 1))) e ∙ get_or-set_same places entry.vertex (at + 1) 0 (omega (arith, h.size, in_low)) ∙ sym is_at
          ∙ ap (place_at places) (sym e)
      place_low v (inr f) = get_or-set_other places entry.vertex v (at + 1) 0 f

      stands_low : (p : ℕ) → p < length entries → (p ≡ at) ⊎ (p ≡ at → ⊥) → key_at (set keys entry.vertex (Some entry.key)) (vertex_in entries p) ≡ key_in (set entries at entry) p
      stands_low p lt (inl e) =
          ap (λ q. key_at (set keys entry.vertex (Some entry.key)) (vertex_in entries q)) e
          ∙ ap (key_at (set keys entry.vertex (Some entry.key))) (h.same entry.vertex at is_at) ∙ get_or-set_same keys entry.vertex (Some entry.key) None in_low
          ∙ sym (key_in-set_same entries at entry lt_low) ∙ ap (key_in (set entries at entry)) (sym e)
      stands_low p lt (inr f) =
          get_or-set_other keys entry.vertex (vertex_in entries p) (Some entry.key) None (other_vertex entry.vertex at p is_at lt f) ∙ h.stands p lt
          ∙ sym (key_in-set_other entries at p entry f)

      gone_low : (v : ℕ) → place_at places v ≡ 0 → (v ≡ entry.vertex) ⊎ (v ≡ entry.vertex → ⊥) → key_at (set keys entry.vertex (Some entry.key)) v ≡ None
      gone_low v is (inl e) = absurd (omega (arith, is, ap (place_at places) e, is_at))
      gone_low v is (inr f) = get_or-set_other keys entry.vertex v (Some entry.key) None f ∙ h.gone v is

      pub lowered_there : ArePlaced (set keys entry.vertex (Some entry.key)) (set places entry.vertex (at + 1)) (set entries at entry)
      lowered_there = record {
        small = omega (arith, h.small, length-set keys entry.vertex (Some entry.key));
        size = length-set places entry.vertex (at + 1) ∙ h.size ∙ sym (length-set keys entry.vertex (Some entry.key));
        counted = length-set entries at entry ∙ h.counted
            ∙ sym (count_same keys entry.vertex (waits entry.vertex at is_at).0 entry.key in_low (waits entry.vertex at is_at).1);
        inside = λ p lt. omega (arith, vertex_low p (cases_eq p at), h.inside p (omega (arith, lt, length-set entries at entry)), length-set keys entry.vertex (Some entry.key));
        there = λ p lt. ap (place_at (set places entry.vertex (at + 1))) (vertex_low p (cases_eq p at))
            ∙ place_low (vertex_in entries p) (cases_eq (vertex_in entries p) entry.vertex) ∙ h.there p (omega (arith, lt, length-set entries at entry));
        stands = λ p lt. ap (key_at (set keys entry.vertex (Some entry.key))) (vertex_low p (cases_eq p at))
            ∙ stands_low p (omega (arith, lt, length-set entries at entry)) (cases_eq p at);
        back = λ v p is. omega (arith, h.back v p (sym (place_low v (cases_eq v entry.vertex)) ∙ is), length-set entries at entry);
        same = λ v p is. vertex_low p (cases_eq p at) ∙ h.same v p (sym (place_low v (cases_eq v entry.vertex)) ∙ is);
        gone = λ v is. gone_low v (sym (place_low v (cases_eq v entry.vertex)) ∙ is) (cases_eq v entry.vertex);
      }

  -- a vertex goes out: its entry is the last, or the last entry takes its place
  module _ (keys : List (Option K)) (places : List ℕ) (rest : List (Waiting K)) (last : Waiting K) (h : ArePlaced keys places (rest ++ last ∷ [])) (v at : ℕ)
      (is_at : place_at places v ≡ at + 1) where
    len_out : length (rest ++ last ∷ []) ≡ length rest + 1
    len_out = length-append rest (last ∷ [])

    in_out : v < length keys
    in_out = waits_inside keys places (rest ++ last ∷ []) h v at is_at

    size_out : v < length places
    size_out = omega (arith, h.size, in_out)

    counted_out : length rest ≡ count_by is_some (set keys v None)
    counted_out =
        let has = waits keys places (rest ++ last ∷ []) h v at is_at in
        omega (arith, count_fewer keys v has.0 in_out has.1, h.counted, len_out)

    key_out : (u : ℕ) → (u ≡ v → ⊥) → key_at (set keys v None) u ≡ key_at keys u
    key_out u f = get_or-set_other keys v u None None f

    gone_out : (u : ℕ) → place_at places u ≡ 0 → (u ≡ v) ⊎ (u ≡ v → ⊥) → key_at (set keys v None) u ≡ None
    gone_out u is (inl e) = ap (key_at (set keys v None)) e ∙ get_or-set_same keys v None None in_out
    gone_out u is (inr f) = key_out u f ∙ h.gone u is

    vertex_out : (p : ℕ) → p < length rest → vertex_in (rest ++ last ∷ []) p ≡ vertex_in rest p
    vertex_out p lt = vertex_in-push_other rest last p lt

    inside_out : (p : ℕ) → p < length rest → vertex_in rest p < length (set keys v None)
    inside_out p lt = omega (arith, vertex_out p lt, h.inside p (omega (arith, len_out, lt)), length-set keys v None)

    there_out : (p : ℕ) → p < length rest → place_at places (vertex_in rest p) ≡ p + 1
    there_out p lt = ap (place_at places) (sym (vertex_out p lt)) ∙ h.there p (omega (arith, len_out, lt))

    other_out : (p : ℕ) → p < length rest → (p ≡ at → ⊥) → vertex_in rest p ≡ v → ⊥
    other_out p lt differs e = other_vertex keys places (rest ++ last ∷ []) h v at p is_at (omega (arith, len_out, lt)) differs (vertex_out p lt ∙ e)

    stands_out : (p : ℕ) → p < length rest → (p ≡ at → ⊥) → key_at (set keys v None) (vertex_in rest p) ≡ key_in rest p
    stands_out p lt differs =
        key_out (vertex_in rest p) (other_out p lt differs) ∙ ap (key_at keys) (sym (vertex_out p lt)) ∙ h.stands p (omega (arith, len_out, lt))
        ∙ key_in-push_other rest last p lt

    -- its entry is the last
    module _ (is_last : at ≡ length rest) where
      back_last : (u p : ℕ) → place_at (set places v 0) u ≡ p + 1 → (u ≡ v) ⊎ (u ≡ v → ⊥) → (p < length rest) × (vertex_in rest p ≡ u)
      back_last u p is (inl e) = absurd (omega (arith, is, ap (place_at (set places v 0)) e, get_or-set_same places v 0 0 size_out))
      back_last u p is (inr f) =
          let before : place_at places u ≡ p + 1 = sym (get_or-set_other places v u 0 0 f) ∙ is in
          let differs = other_place keys places (rest ++ last ∷ []) h u v at p is_at before f in
          let less : p < length rest = before_last (h.back u p before) differs in
          (less, sym (vertex_out p less) ∙ h.same u p before)
        where
          before_last : {p : ℕ} → p < length (rest ++ last ∷ []) → (p ≡ at → ⊥) → p < length rest
          before_last lt differs = omega (arith, len_out)

      gone_last : (u : ℕ) → place_at (set places v 0) u ≡ 0 → (u ≡ v) ⊎ (u ≡ v → ⊥) → key_at (set keys v None) u ≡ None
      gone_last u is (inl e) = ap (key_at (set keys v None)) e ∙ get_or-set_same keys v None None in_out
      gone_last u is (inr f) = gone_out u (sym (get_or-set_other places v u 0 0 f) ∙ is) (inr f)

      pub last_out : ArePlaced (set keys v None) (set places v 0) rest
      last_out = record {
        small = omega (arith, h.small, length-set keys v None);
        size = length-set places v 0 ∙ h.size ∙ sym (length-set keys v None);
        counted = counted_out;
        inside = inside_out;
        there = λ p lt. get_or-set_other places v (vertex_in rest p) 0 0 (other_out p lt (λ e. omega arith)) ∙ there_out p lt;
        stands = λ p lt. stands_out p lt (λ e. omega arith);
        back = λ u p is. (back_last u p is (cases_eq u v)).0;
        same = λ u p is. (back_last u p is (cases_eq u v)).1;
        gone = λ u is. gone_last u is (cases_eq u v);
      }

    -- the last entry takes its place
    module _ (before_last : at < length rest) where
      is_end : vertex_in (rest ++ last ∷ []) (length rest) ≡ last.vertex
      is_end = vertex_in-push_last rest last

      end_at : place_at places last.vertex ≡ length rest + 1
      end_at = ap (place_at places) (sym is_end) ∙ h.there (length rest) (omega (arith, len_out))

      end_inside : last.vertex < length keys
      end_inside = omega (arith, is_end, h.inside (length rest) (omega (arith, len_out)))

      end_differs : last.vertex ≡ v → ⊥
      end_differs e = omega (arith, ap (place_at places) e, end_at, is_at)

      place_end : place_at (set (set places v 0) last.vertex (at + 1)) last.vertex ≡ at + 1
      place_end = get_or-set_same (set places v 0) last.vertex (at + 1) 0 (omega (arith, length-set places v 0, h.size, end_inside))

      place_v : place_at (set (set places v 0) last.vertex (at + 1)) v ≡ 0
      place_v = get_or-set_other (set places v 0) last.vertex v (at + 1) 0 (λ e. end_differs (sym e)) ∙ get_or-set_same places v 0 0 size_out

      place_others : (u : ℕ) → (u ≡ v → ⊥) → (u ≡ last.vertex → ⊥) → place_at (set (set places v 0) last.vertex (at + 1)) u ≡ place_at places u
      place_others u f g = get_or-set_other (set places v 0) last.vertex u (at + 1) 0 g ∙ get_or-set_other places v u 0 0 f

      not_end : (p : ℕ) → p < length rest → vertex_in rest p ≡ last.vertex → ⊥
      not_end p lt e = omega (arith, there_out p lt, ap (place_at places) e, end_at)

      inside_mid : (p : ℕ) → p < length rest → (p ≡ at) ⊎ (p ≡ at → ⊥) → vertex_in (set rest at last) p < length (set keys v None)
      inside_mid p lt (inl e) = omega (arith, ap (vertex_in (set rest at last)) e, vertex_in-set_same rest at last before_last, end_inside, length-set keys v None)
      inside_mid p lt (inr f) = omega (arith, vertex_in-set_other rest at p last f, inside_out p lt)

      there_mid : (p : ℕ) → p < length rest → (p ≡ at) ⊎ (p ≡ at → ⊥) → place_at (set (set places v 0) last.vertex (at + 1)) (vertex_in (set rest at last) p) ≡ p + 1
      there_mid p lt (inl e) =
          ap (λ q. place_at (set (set places v 0) last.vertex (at + 1)) (vertex_in (set rest at last) q)) e
          ∙ ap (place_at (set (set places v 0) last.vertex (at + 1))) (vertex_in-set_same rest at last before_last) ∙ place_end ∙ ap (λ q. q + 1) (sym e)
      there_mid p lt (inr f) =
          ap (place_at (set (set places v 0) last.vertex (at + 1))) (vertex_in-set_other rest at p last f)
          ∙ place_others (vertex_in rest p) (other_out p lt f) (not_end p lt) ∙ there_out p lt

      stands_mid : (p : ℕ) → p < length rest → (p ≡ at) ⊎ (p ≡ at → ⊥) → key_at (set keys v None) (vertex_in (set rest at last) p) ≡ key_in (set rest at last) p
      stands_mid p lt (inl e) =
          ap (λ q. key_at (set keys v None) (vertex_in (set rest at last) q)) e ∙ ap (key_at (set keys v None)) (vertex_in-set_same rest at last before_last)
          ∙ key_out last.vertex end_differs ∙ ap (key_at keys) (sym is_end) ∙ h.stands (length rest) (omega (arith, len_out)) ∙ key_in-push_last rest last
          ∙ sym (key_in-set_same rest at last before_last) ∙ ap (key_in (set rest at last)) (sym e)
      stands_mid p lt (inr f) =
          ap (key_at (set keys v None)) (vertex_in-set_other rest at p last f) ∙ stands_out p lt f ∙ sym (key_in-set_other rest at p last f)

      back_mid : (u p : ℕ) → place_at (set (set places v 0) last.vertex (at + 1)) u ≡ p + 1 → (u ≡ last.vertex) ⊎ (u ≡ last.vertex → ⊥) → (u ≡ v) ⊎ (u ≡ v → ⊥)
          → (p < length rest) × (vertex_in (set rest at last) p ≡ u)
      back_mid u p is (inl e) r =
          let here : p ≡ at = omega (arith, is, ap (place_at (set (set places v 0) last.vertex (at + 1))) e, place_end) in
          (omega (arith, here, before_last), ap (vertex_in (set rest at last)) here ∙ vertex_in-set_same rest at last before_last ∙ sym e)
      back_mid u p is (inr g) (inl e) = absurd (omega (arith, is, ap (place_at (set (set places v 0) last.vertex (at + 1))) e, place_v))
      back_mid u p is (inr g) (inr f) =
          let before : place_at places u ≡ p + 1 = sym (place_others u f g) ∙ is in
          let differs = other_place keys places (rest ++ last ∷ []) h u v at p is_at before f in
          let inner = other_place keys places (rest ++ last ∷ []) h u last.vertex (length rest) p end_at before g in
          let less : p < length rest = omega (arith, h.back u p before, len_out, inner) in
          (less, vertex_in-set_other rest at p last differs ∙ sym (vertex_out p less) ∙ h.same u p before)

      gone_mid : (u : ℕ) → place_at (set (set places v 0) last.vertex (at + 1)) u ≡ 0 → (u ≡ last.vertex) ⊎ (u ≡ last.vertex → ⊥) → (u ≡ v) ⊎ (u ≡ v → ⊥)
          → key_at (set keys v None) u ≡ None
      gone_mid u is (inl e) r = absurd (omega (arith, is, ap (place_at (set (set places v 0) last.vertex (at + 1))) e, place_end))
      gone_mid u is (inr g) (inl e) = ap (key_at (set keys v None)) e ∙ get_or-set_same keys v None None in_out
      gone_mid u is (inr g) (inr f) = gone_out u (sym (place_others u f g) ∙ is) (inr f)

      pub replaced : ArePlaced (set keys v None) (set (set places v 0) last.vertex (at + 1)) (set rest at last)
      replaced = record {
        small = omega (arith, h.small, length-set keys v None);
        size = length-set (set places v 0) last.vertex (at + 1) ∙ length-set places v 0 ∙ h.size ∙ sym (length-set keys v None);
        counted = length-set rest at last ∙ counted_out;
        inside = λ p lt. inside_mid p (omega (arith, lt, length-set rest at last)) (cases_eq p at);
        there = λ p lt. there_mid p (omega (arith, lt, length-set rest at last)) (cases_eq p at);
        stands = λ p lt. stands_mid p (omega (arith, lt, length-set rest at last)) (cases_eq p at);
        back = λ u p is. omega (arith, (back_mid u p is (cases_eq u last.vertex) (cases_eq u v)).0, length-set rest at last);
        same = λ u p is. (back_mid u p is (cases_eq u last.vertex) (cases_eq u v)).1;
        gone = λ u is. gone_mid u is (cases_eq u last.vertex) (cases_eq u v);
      }

-- the vertices of the entries before a place wait no more, and what is kept for the others stays
pub record AreForgotten {K : Type 0} (before after : List ℕ) (entries : List (Waiting K)) (n : ℕ) : Type 0 where
  pub size : length after ≡ length before
  pub inside : (p : ℕ) → p < length entries → vertex_in entries p < length before
  pub left : (v p : ℕ) → place_at after v ≡ p + 1 → (n ≤ p) × (p < length entries) × (vertex_in entries p ≡ v)

module _ {K : Type 0} where
  pub none_forgotten : (keys : List (Option K)) (places : List ℕ) (entries : List (Waiting K)) → ArePlaced keys places entries → AreForgotten places places entries 0
  none_forgotten keys places entries h = record {
    size = refl;
    inside = λ p lt. omega (arith, h.inside p lt, h.size);
    left = λ v p is. (omega arith, h.back v p is, h.same v p is);
  }

  pub one_forgotten : (before after : List ℕ) (entries : List (Waiting K)) (n : ℕ) (entry : Waiting K) → n < length entries → vertex_in entries n ≡ entry.vertex
      → AreForgotten before after entries n → AreForgotten before (set after entry.vertex 0) entries (n + 1)
  one_forgotten before after entries n entry lt is h = record {
    size = length-set after entry.vertex 0 ∙ h.size;
    inside = h.inside;
    left = λ v p e. left v p e (cases_eq v entry.vertex);
  }
    where
      left : (v p : ℕ) → place_at (set after entry.vertex 0) v ≡ p + 1 → (v ≡ entry.vertex) ⊎ (v ≡ entry.vertex → ⊥)
          → (n + 1 ≤ p) × (p < length entries) × (vertex_in entries p ≡ v)
      left v p e (inl same) =
          absurd (omega (arith, e, ap (place_at (set after entry.vertex 0)) same, get_or-set_same after entry.vertex 0 0 (omega (arith, is, h.inside n lt, h.size))))
      left v p e (inr other) =
          let old = h.left v p (sym (get_or-set_other after entry.vertex v 0 0 other) ∙ e) in
          (later p old.0 (λ same. other (sym old.2 ∙ ap (vertex_in entries) same ∙ is)), old.1, old.2)
        where
          later : (p : ℕ) → n ≤ p → (p ≡ n → ⊥) → n + 1 ≤ p
          later p le differs = omega arith

  pub all_forgotten : (before after : List ℕ) (entries : List (Waiting K)) (n : ℕ) → length entries ≤ n → AreForgotten before after entries n
      → after ≡ replicate (length before) 0
  all_forgotten before after entries n end h =
      same_lists after (replicate (length before) 0) (h.size ∙ sym (length-replicate (length before) 0))
      (λ v d lt. get_or_default after v d 0 lt ∙ at v (place_at after v) refl ∙ sym (get_or-replicate (length before) v 0 d (omega (arith, h.size, lt))))
    where
      at : (v place : ℕ) → place_at after v ≡ place → place_at after v ≡ 0
      at v zero e = e
      at v (suc p) e = let old = h.left v p (omega (arith, e)) in absurd (omega (arith, old.0, old.1))
