-- Notes grow by a start at a time, and are one list at most.
use Rattle.std.proofs.Common.{◌≡◌, ◌≢◌, ℕ, zero, suc, ℤ, pos, ◌+◌, ◌-◌, ◌<◌, ◌⊎◌, ⊎_elim, inl, inr, List, [], ◌∷◌, ◌++◌, length, get_or, take, refl, sym, ap, ◌∙◌, subst, arith, Bool, true, false, Ordering, Less, Equal, Greater}
use Rattle.std.specs.Prelude.{◌↔◌, All, Any, Contains, Result, Ok, Err, OnOk}
use Rattle.std.specs.Ordering.{int_cmp, nat_cmp, ordering_reverse}
use Rattle.std.specs.Cmp.{IsTotalOrder}
use Rattle.std.proofs.lemmas.Cmp.{int_cmp_total, on_total, tied_itself}
use Rattle.std.proofs.lemmas.List.{get_or_default, length-append, get_or-append_right}
use Rattle.std.proofs.lemmas.List.Elements.{All-push, All-weaker, All-contains, Contains-get_or, Contains-append_left}
use Rattle.std.proofs.lemmas.List.Quantifiers.{all_pairs_push}
use Rattle.pgr_outside.specs.Lists.{IsStrictlyRising}
use Rattle.pgr_walks.specs.declared.link.LinkOf.{LinkOf}
use Rattle.pgr_walks.specs.Link.{link_cmp}
use Rattle.pgr_walks.specs.LinkOrders.{link_total, link_tie, int_tie}
use Rattle.pgr_walks.specs.Walk.{IsVertex}
use Rattle.pgr_words.specs.declared.command.Command.{Command}
use Rattle.pgr_words.specs.declared.function.Function.{Function}
use Rattle.pgr_words.specs.declared.function.Function.TheVariants as function
use Rattle.pgr_numbers.specs.Names.{AreEnds, id_at}
use Rattle.pgr_astar.specs.Breaking.{IsFirstBreaking}
use Rattle.pgr_answer.specs.Notes.{IsAskedStart, note_cmp, AreNotes}
use Rattle.pgr_answer.specs.Noting.{IsNumberedStart, GainsNote, AreNotesOf}
use Rattle.pgr_answer.specs.declared.answered.Note.{Note}
use Rattle.pgr_answer.specs.declared.tables.Tables.{Tables}
use Rattle.pgr_answer.specs.Allowed.{AreNotesFor, AreNotesOver}
use Rattle.pgr_answer.proofs.PairLemmas.{take_cases}
use Rattle.pgr_answer.proofs.SameElements.{rising_is_one}

module _ (Has : LinkOf ℤ → Type 0) (Broken : ℤ → LinkOf ℤ → Type 0) (names : List ℤ) where
  -- no starts have no notes
  pub no_notes : (starts : List ℕ) (notes : List Note) → starts ≡ [] → notes ≡ [] → AreNotesOf Has Broken names starts notes
  no_notes starts notes no_starts none = record {
    asked = λ k d within. absurd (omega (arith, within, ap length none));
    first = λ k d within. absurd (omega (arith, within, ap length none));
    every = λ n link there has broken. absurd (omega (arith, there.1, ap length no_starts));
    rise = λ i j d before within. absurd (omega (arith, within, ap length none));
  }

  module _ (starts : List ℕ) (i s : ℕ) (inside : i < length starts) (is_s : s ≡ get_or starts i 0) (old new : List Note)
      (are : AreNotesOf Has Broken names (take i starts) old) where
    cases : (n : ℕ) → Contains (take (i + 1) starts) n ↔ (Contains (take i starts) n ⊎ (n ≡ get_or starts i 0))
    cases n = take_cases starts i 0 n inside

    later : (n : ℕ) → Contains (take i starts) n → Contains (take (i + 1) starts) n
    later n there = (cases n).1 (inl there)

    this : Contains (take (i + 1) starts) s
    this = (cases s).1 (inr is_s)

    asked_later : All (λ note. (n : ℕ) × Contains (take (i + 1) starts) n × (id_at names n ≡ note.start)) old
    asked_later = All-weaker (λ (note : Note). (n : ℕ) × Contains (take i starts) n × (id_at names n ≡ note.start))
        (λ note. (n : ℕ) × Contains (take (i + 1) starts) n × (id_at names n ≡ note.start)) (λ note h. (h.0, later h.0 h.1, h.2)) old are.asked

    -- a start whose estimate no link breaks
    notes_stay : ((link : LinkOf ℤ) → Has link → Broken (id_at names s) link → ⊥) → AreNotesOf Has Broken names (take (i + 1) starts) old
    notes_stay none = record {
      asked = asked_later;
      first = are.first;
      every = λ n link there has broken. ⊎_elim
          (λ before. are.every n link before has broken)
          (λ same. absurd (none link has (subst (λ m. Broken (id_at names m) link) (same ∙ sym is_s) broken)))
          ((cases n).0 there);
      rise = are.rise;
    }

    -- a start whose estimate a link breaks
    notes_more : (link : LinkOf ℤ) → IsFirstBreaking int_cmp Has (Broken (id_at names s)) link
        → ((n : ℕ) → Contains (take i starts) n → int_cmp (id_at names n) (id_at names s) ≡ Less)
        → AreNotesOf Has Broken names (take (i + 1) starts) (old ++ record { start = id_at names s; link = link } ∷ [])
    notes_more link first before =
        let note : Note = record { start = id_at names s; link = link } in
        record {
          asked = All-push (λ note. (n : ℕ) × Contains (take (i + 1) starts) n × (id_at names n ≡ note.start)) old note asked_later (s, this, refl);
          first = All-push (λ (note : Note). IsFirstBreaking int_cmp Has (Broken note.start) note.link) old note are.first first;
          every = λ n other there has broken. ⊎_elim
              (λ earlier. any_left n (are.every n other earlier has broken))
              (λ same. (length old, note, omega (arith, length-append old (note ∷ [])), last note, ap (id_at names) (is_s ∙ sym same)))
              ((cases n).0 there);
          rise = all_pairs_push (λ a b. note_cmp a b ≡ Less) old note are.rise
              (λ k d below. let from = are.asked k d below in subst (λ id. int_cmp id (id_at names s) ≡ Less) from.2 (before from.0 from.1));
        } where
          any_left : (n : ℕ) → Any (λ (note : Note). note.start ≡ id_at names n) old
              → Any (λ (note : Note). note.start ≡ id_at names n) (old ++ record { start = id_at names s; link = link } ∷ [])
          any_left n h = let k = Contains-append_left old (record { start = id_at names s; link = link } ∷ []) h.1 (h.0, h.2, h.3) in (k.0, h.1, k.1, k.2, h.4)

          last : (note : Note) → get_or (old ++ note ∷ []) (length old) note ≡ note
          last note =
              let none : length old - length old ≡ 0 = omega arith in
              get_or-append_right old (note ∷ []) (length old) (length old) note refl (omega arith) ∙ ap (λ n. get_or (note ∷ []) n note) none

    -- one start more
    pub notes_gain : ((n : ℕ) → Contains (take i starts) n → int_cmp (id_at names n) (id_at names s) ≡ Less)
        → GainsNote Has Broken (id_at names s) old new → AreNotesOf Has Broken names (take (i + 1) starts) new
    notes_gain before (inl (link, first, new_is)) = subst (AreNotesOf Has Broken names (take (i + 1) starts)) (sym new_is) (notes_more link first before)
    notes_gain before (inr (none, new_is)) = subst (AreNotesOf Has Broken names (take (i + 1) starts)) (sym new_is) (notes_stay none)

-- the starts so far stand for lesser ids
pub starts_before : (names : List ℤ) → ((m n : ℕ) → m < length names → n < length names → int_cmp (id_at names m) (id_at names n) ≡ nat_cmp m n)
    → (starts : List ℕ) → IsStrictlyRising nat_cmp starts → All (λ n. n < length names) starts → (i s : ℕ) → i < length starts → s ≡ get_or starts i 0
    → (n : ℕ) → Contains (take i starts) n → int_cmp (id_at names n) (id_at names s) ≡ Less
starts_before names order starts rise below i s inside is_s n there =
    let k = at_place starts i n there in
    let n_is : get_or starts k.0 0 ≡ n = k.2 in
    let low : k.0 < i = k.1 in
    let n_below : n < length names = subst (λ m. m < length names) n_is (below k.0 0 (omega (arith, low, inside))) in
    let s_below : s < length names = subst (λ m. m < length names) (sym is_s) (below i 0 inside) in
    let less : nat_cmp n s ≡ Less = subst (λ m. nat_cmp m s ≡ Less) n_is (subst (λ m. nat_cmp (get_or starts k.0 0) m ≡ Less) (sym is_s) (rise k.0 i 0 low inside)) in
    order n s n_below s_below ∙ less
  where
    at_place : (xs : List ℕ) (i n : ℕ) → Contains (take i xs) n → (k : ℕ) × (k < i) × (get_or xs k 0 ≡ n)
    at_place xs zero n there = absurd (omega (arith, there.1))
    at_place [] (suc i) n there = absurd (omega (arith, there.1))
    at_place (x ∷ xs) (suc i) n (zero, within, is) = (zero, omega arith, is)
    at_place (x ∷ xs) (suc i) n (suc k, within, is) =
        let rest = at_place xs i n (k, omega (arith, within), is) in (suc rest.0, omega (arith, rest.1), rest.2)

-- the notes of the starts by number are the notes
pub notes_found : (links : List (LinkOf ℤ)) (Has : LinkOf ℤ → Type 0) → ((link : LinkOf ℤ) → Contains links link ↔ Has link)
    → (Asked : ℤ → ℤ → Type 0) (Broken : ℤ → LinkOf ℤ → Type 0) (names : List ℤ) → AreEnds links names
    → (starts : List ℕ) → ((n : ℕ) → Contains starts n ↔ IsNumberedStart names Asked n)
    → (notes : List Note) → AreNotesOf (Contains links) Broken names starts notes → AreNotes Has Asked Broken notes
notes_found links Has exactly Asked Broken names ends starts are_starts notes are = record {
  asked = All-weaker (λ (note : Note). (n : ℕ) × Contains starts n × (id_at names n ≡ note.start)) (λ note. IsAskedStart Has Asked note.start)
      (λ note h. subst (IsAskedStart Has Asked) h.2 (asked_start h.0 ((are_starts h.0).0 h.1))) notes are.asked;
  first = All-weaker (λ (note : Note). IsFirstBreaking int_cmp (Contains links) (Broken note.start) note.link) (λ note. IsFirstBreaking int_cmp Has (Broken note.start) note.link)
      (λ note is. record { has = (exactly note.link).0 is.has; broken = is.broken; first = λ other has. is.first other ((exactly other).1 has) }) notes are.first;
  every = λ start link asked has broken. noted start link asked ((exactly link).1 has) broken;
  rise = are.rise;
} where
  vertex_there : (v : ℤ) → IsVertex (Contains links) v → IsVertex Has v
  vertex_there v (link, has, end) = (link, (exactly link).0 has, end)

  vertex_back : (v : ℤ) → IsVertex Has v → IsVertex (Contains links) v
  vertex_back v (link, has, end) = (link, (exactly link).1 has, end)

  asked_start : (n : ℕ) → IsNumberedStart names Asked n → IsAskedStart Has Asked (id_at names n)
  asked_start n is = record {
    end = is.1.0;
    asked = is.1.1;
    vertex = vertex_there (id_at names n) ((ends.ends (id_at names n)).0 (Contains-get_or names n (pos 0) is.0));
  }

  noted : (start : ℤ) (link : LinkOf ℤ) → IsAskedStart Has Asked start → Contains links link → Broken start link → Any (λ note. note.start ≡ start) notes
  noted start link asked has broken = by_number ((ends.ends start).1 (vertex_back start asked.vertex)) where
    by_number : Contains names start → Any (λ note. note.start ≡ start) notes
    by_number (n, below, is) =
        let stands : id_at names n ≡ start = get_or_default names n (pos 0) start below ∙ is in
        let there = (are_starts n).1 (below, (asked.end, subst (λ a. Asked a asked.end) (sym stands) asked.asked)) in
        let found = are.every n link there has (subst (λ id. Broken id link) (sym stands) broken) in
        (found.0, found.1, found.2, found.3, found.4 ∙ stands)

-- where a function gives no notes, there are none
none_noted : (f : Function) (command : Command) (tables : Tables) (notes : List Note) → f ≢ function.AStar → notes ≡ [] → AreNotesFor f command tables notes
none_noted function.AStar command tables notes other none = absurd (other refl)
none_noted f command tables notes other none = none

-- whether a function gives notes
abbrev pub gives_notes : Function → Bool
gives_notes function.AStar = true
gives_notes f = false

-- so they are those of a command of such a function
pub unnoted : {X E : Type 0} (result : Result X E) (command : Command) (tables : Tables) (notes : List Note) → gives_notes command.function ≡ false → notes ≡ []
    → OnOk result (AreNotesOver command tables notes)
unnoted (Ok x) command tables notes other none = none_noted command.function command tables notes (λ e. let both : true ≡ false = ap gives_notes (sym e) ∙ other in cc) none
unnoted (Err e) command tables notes other none = tt

-- two links that are the first to break are the same
one_first : (Has Broken : LinkOf ℤ → Type 0) (a b : LinkOf ℤ) → IsFirstBreaking int_cmp Has Broken a → IsFirstBreaking int_cmp Has Broken b → a ≡ b
one_first Has Broken a b is also = by_order (link_cmp int_cmp a b) refl where
  total : IsTotalOrder (link_cmp int_cmp)
  total = link_total int_cmp int_cmp_total

  differ : (o : Ordering) → link_cmp int_cmp a b ≡ o → o ≢ Equal → a ≢ b
  differ o e not same = not (sym e ∙ ap (link_cmp int_cmp a) (sym same) ∙ tied_itself total a)

  by_order : (o : Ordering) → link_cmp int_cmp a b ≡ o → a ≡ b
  by_order Equal e = link_tie int_cmp int_tie a b e
  by_order Less e =
      let back : link_cmp int_cmp b a ≡ Less = also.first a is.has is.broken (differ Less e (λ x. cc)) in
      let both : Less ≡ Greater = sym e ∙ (total.antisymm a b ∙ ap ordering_reverse back) in
      absurd cc
  by_order Greater e =
      let less : link_cmp int_cmp a b ≡ Less = is.first b also.has also.broken (λ same. differ Greater e (λ x. cc) (sym same)) in
      let both : Greater ≡ Less = sym e ∙ less in
      absurd cc

-- the notes are one list
pub one_notes : (Has : LinkOf ℤ → Type 0) (Asked : ℤ → ℤ → Type 0) (Broken : ℤ → LinkOf ℤ → Type 0) (notes other : List Note)
    → AreNotes Has Asked Broken notes → AreNotes Has Asked Broken other → notes ≡ other
one_notes Has Asked Broken notes other are also =
    rising_is_one note_cmp (on_total (λ (note : Note). note.start) int_cmp_total) notes other are.rise also.rise (stands notes other are also) (stands other notes also are) where
      same_note : (a b : Note) → a.start ≡ b.start → a.link ≡ b.link → a ≡ b
      same_note a b start link = λ i. record { start = start i; link = link i }

      stands : (xs ys : List Note) → AreNotes Has Asked Broken xs → AreNotes Has Asked Broken ys → (a : Note) → Contains xs a → Contains ys a
      stands xs ys xs_are ys_are a there =
          let asked = All-contains (λ (note : Note). IsAskedStart Has Asked note.start) xs a xs_are.asked there in
          let first = All-contains (λ (note : Note). IsFirstBreaking int_cmp Has (Broken note.start) note.link) xs a xs_are.first there in
          let found = ys_are.every a.start a.link asked first.has first.broken in
          let b = found.1 in
          let place : Contains ys b = (found.0, found.2, found.3) in
          let also_first = All-contains (λ (note : Note). IsFirstBreaking int_cmp Has (Broken note.start) note.link) ys b ys_are.first place in
          let link : b.link ≡ a.link = one_first Has (Broken a.start) b.link a.link (subst (λ start. IsFirstBreaking int_cmp Has (Broken start) b.link) found.4 also_first) first in
          subst (Contains ys) (same_note b a found.4 link) place
