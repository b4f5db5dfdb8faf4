-- Where the entries of vertices stand: what is kept after two of them changed places, and after a vertex came in or went out.
use Rattle.std.proofs.Common.{◌≡◌, ℕ, zero, suc, ◌+◌, ◌-◌, ◌<◌, ◌⊎◌, inl, inr, List, [], ◌∷◌, Option, None, length, get_or, refl, sym, ap, ◌∙◌, arith}
use Rattle.std.proofs.lemmas.Bool.{cases_eq}
use Rattle.std.proofs.lemmas.List.{length-map, same_lists, get_or_default}
use Rattle.pgr_search.specs.declared.heap.Waiting.{Waiting}
use Rattle.pgr_search.specs.Heap.{key_at, key_in, vertex_in, place_at, key_behind, keys_of, ArePlaced}
use Rattle.pgr_search.proofs.HeapOrder.{IsExchanged}

module _ {K : Type 0} where
  -- the keys are those behind what is kept
  behind : (entries : List (Waiting K)) (places : List ℕ) (v : ℕ) (d : Option K) → v < length places → get_or (keys_of places entries) v d ≡ key_behind entries (place_at places v)
  behind entries [] v d lt = absurd (omega arith)
  behind entries (place ∷ places) zero d lt = refl
  behind entries (place ∷ places) (suc v) d lt = behind entries places v d (omega arith)

  pub keys_are : (keys : List (Option K)) (places : List ℕ) (entries : List (Waiting K)) → ArePlaced keys places entries → keys_of places entries ≡ keys
  keys_are keys places entries h = same_lists (keys_of places entries) keys (length-map places (key_behind entries) ∙ h.size) (λ v d lt. same v d (omega (arith, lt, len)))
    where
      len : length (keys_of places entries) ≡ length places
      len = length-map places (key_behind entries)

      at : (v place : ℕ) → place_at places v ≡ place → key_behind entries place ≡ key_at keys v
      at v zero e = sym (h.gone v e)
      at v (suc p) e =
          let is : place_at places v ≡ p + 1 = omega (arith, e) in
          sym (h.stands p (h.back v p is)) ∙ ap (key_at keys) (h.same v p is)

      same : (v : ℕ) (d : Option K) → v < length places → get_or (keys_of places entries) v d ≡ get_or keys v d
      same v d lt = behind entries places v d lt ∙ at v (place_at places v) refl ∙ get_or_default keys v None d (omega (arith, h.size))

  -- two entries change places
  module _ (keys : List (Option K)) (places : List ℕ) (entries : List (Waiting K)) (places' : List ℕ) (entries' : List (Waiting K)) (a b : ℕ) (h : ArePlaced keys places entries)
      (a_below : a < length entries) (b_below : b < length entries) (x : IsExchanged places entries places' entries' a b) where
    inside_after : (p : ℕ) → p < length entries → (p ≡ a) ⊎ (p ≡ a → ⊥) → (p ≡ b) ⊎ (p ≡ b → ⊥) → vertex_in entries' p < length keys
    inside_after p lt (inl e) r = omega (arith, ap (vertex_in entries') e, x.vertex_a, h.inside b b_below)
    inside_after p lt (inr f) (inl e) = omega (arith, ap (vertex_in entries') e, x.vertex_b, h.inside a a_below)
    inside_after p lt (inr f) (inr g) = omega (arith, x.vertex_other p f g, h.inside p lt)

    apart : (p q : ℕ) → p < length entries → q < length entries → (p ≡ q → ⊥) → vertex_in entries p ≡ vertex_in entries q → ⊥
    apart p q lt less other e = other (omega (arith, h.there p lt, h.there q less, ap (place_at places) e))

    there_after : (p : ℕ) → p < length entries → (p ≡ a) ⊎ (p ≡ a → ⊥) → (p ≡ b) ⊎ (p ≡ b → ⊥) → place_at places' (vertex_in entries' p) ≡ p + 1
    there_after p lt (inl e) r = ap (λ q. place_at places' (vertex_in entries' q)) e ∙ ap (place_at places') x.vertex_a ∙ x.place_a ∙ ap (λ q. q + 1) (sym e)
    there_after p lt (inr f) (inl e) = ap (λ q. place_at places' (vertex_in entries' q)) e ∙ ap (place_at places') x.vertex_b ∙ x.place_b ∙ ap (λ q. q + 1) (sym e)
    there_after p lt (inr f) (inr g) =
        ap (place_at places') (x.vertex_other p f g) ∙ x.place_other (vertex_in entries p) (apart p a lt a_below f) (apart p b lt b_below g) ∙ h.there p lt

    stands_after : (p : ℕ) → p < length entries → (p ≡ a) ⊎ (p ≡ a → ⊥) → (p ≡ b) ⊎ (p ≡ b → ⊥) → key_at keys (vertex_in entries' p) ≡ key_in entries' p
    stands_after p lt (inl e) r =
        ap (λ q. key_at keys (vertex_in entries' q)) e ∙ ap (key_at keys) x.vertex_a ∙ h.stands b b_below ∙ sym x.key_a ∙ ap (key_in entries') (sym e)
    stands_after p lt (inr f) (inl e) =
        ap (λ q. key_at keys (vertex_in entries' q)) e ∙ ap (key_at keys) x.vertex_b ∙ h.stands a a_below ∙ sym x.key_b ∙ ap (key_in entries') (sym e)
    stands_after p lt (inr f) (inr g) = ap (key_at keys) (x.vertex_other p f g) ∙ h.stands p lt ∙ sym (x.key_other p f g)

    back_after : (v p : ℕ) → place_at places' v ≡ p + 1 → (v ≡ vertex_in entries a) ⊎ (v ≡ vertex_in entries a → ⊥) → (v ≡ vertex_in entries b) ⊎ (v ≡ vertex_in entries b → ⊥)
        → (p < length entries) × (vertex_in entries' p ≡ v)
    back_after v p is (inl e) r =
        let at : p ≡ b = omega (arith, is, ap (place_at places') e, x.place_b) in
        (omega arith, ap (vertex_in entries') at ∙ x.vertex_b ∙ sym e)
    back_after v p is (inr f) (inl e) =
        let at : p ≡ a = omega (arith, is, ap (place_at places') e, x.place_a) in
        (omega arith, ap (vertex_in entries') at ∙ x.vertex_a ∙ sym e)
    back_after v p is (inr f) (inr g) =
        let before : place_at places v ≡ p + 1 = sym (x.place_other v f g) ∙ is in
        let same = h.same v p before in
        (h.back v p before, x.vertex_other p (λ e. f (sym same ∙ ap (vertex_in entries) e)) (λ e. g (sym same ∙ ap (vertex_in entries) e)) ∙ same)

    gone_after : (v : ℕ) → place_at places' v ≡ 0 → (v ≡ vertex_in entries a) ⊎ (v ≡ vertex_in entries a → ⊥) → (v ≡ vertex_in entries b) ⊎ (v ≡ vertex_in entries b → ⊥)
        → key_at keys v ≡ None
    gone_after v is (inl e) r = absurd (omega (arith, is, ap (place_at places') e, x.place_b))
    gone_after v is (inr f) (inl e) = absurd (omega (arith, is, ap (place_at places') e, x.place_a))
    gone_after v is (inr f) (inr g) = h.gone v (sym (x.place_other v f g) ∙ is)

    pub placed_exchanged : ArePlaced keys places' entries'
    placed_exchanged = record {
      small = h.small;
      size = x.size ∙ h.size;
      counted = x.len ∙ h.counted;
      inside = λ p lt. inside_after p (omega (arith, x.len)) (cases_eq p a) (cases_eq p b);
      there = λ p lt. there_after p (omega (arith, x.len)) (cases_eq p a) (cases_eq p b);
      stands = λ p lt. stands_after p (omega (arith, x.len)) (cases_eq p a) (cases_eq p b);
      back = λ v p is. omega (arith, (back_after v p is (cases_eq v (vertex_in entries a)) (cases_eq v (vertex_in entries b))).0, x.len);
      same = λ v p is. (back_after v p is (cases_eq v (vertex_in entries a)) (cases_eq v (vertex_in entries b))).1;
      gone = λ v is. gone_after v is (cases_eq v (vertex_in entries a)) (cases_eq v (vertex_in entries b));
    }
