-- The fields of a well-formed command hold values in their forms.
use Rattle.std.proofs.Common.{◌≡◌, ℕ, ◌<◌, ◌≤◌, Bool, true, false, ◌&&◌, ◌||◌, not, cond, if◌then◌else◌, List, [], ◌∷◌, length, ℤ, Option, Some, None, IfSome, ◌⊎◌, inl, inr, refl, subst, sym, ap, arith}
use Rattle.std.specs.Prelude.{nat_lt, nat_le}
use Rattle.std.specs.Option.{option_map, option_and_then, is_some, unwrap_or}
use Rattle.std.specs.List.{fold, list_all, All}
use Rattle.std.specs.Map.{lookup}
use Rattle.std.specs.Str.{bytes_eq}
use Rattle.std.proofs.lemmas.Bool.{ltb-true, leb-true}
use Rattle.std.proofs.lemmas.List.Elements.{All-head, All-tail}
use Rattle.std.specs.Str.Parse.{digits_value}
use Rattle.pgr_numerals.specs.Numeral.{is_digit, digits_up_to}
use Rattle.pgr_numerals.specs.NumeralList.{i64_list_of}
use Rattle.pgr_numerals.specs.NumeralListLaws.{length-i64_list_of}
use Rattle.pgr_words.specs.declared.option.OptionName.{OptionName}
use Rattle.pgr_words.specs.declared.option.OptionName.TheVariants as option
use Rattle.pgr_words.specs.declared.command.Command.{Command}
use Rattle.pgr_words.specs.Rising.{rising}
use Rattle.pgr_words.specs.Forms.{file_name, ids, distance, part_of_factor, is_slash, parts_round, factor_of, factor_in, factor}
use Rattle.pgr_words.specs.Factors.{IsFactor}
use Rattle.pgr_words.specs.declared.estimate.Heuristic.TheVariants.{H5}
use Rattle.pgr_words.specs.declared.estimate.Factor.{Factor}
use Rattle.pgr_words.specs.Options.{rule_of, is_same, is_in_form}
use Rattle.pgr_words.specs.Functions.{functions, is_among}
use Rattle.pgr_words.specs.Words.{options_in, is_needed, first_missing}
use Rattle.pgr_words.specs.Commands.{defaults, with_given, command_with}
use Rattle.pgr_words.specs.WellFormed.{IsGoodOption, IsWellFormed, IsFileName, AreIds, AreInForm}
use Rattle.pgr_words.proofs.SameOption.{is_among-along}
use Rattle.pgr_words.proofs.Filling.{field_keeps}
use Rattle.pgr_words.proofs.RisingNumbers.{rises-rising, rising-IsStrictlyRising, length-rising, some-rising}

-- ---- forms

-- a file name in its form
file_is : (text name : List ℕ) → file_name text ≡ Some name → IsFileName name
file_is text name = by (nat_lt 0 (length text)) (nat_le (length text) 4096) (ltb-true 0 (length text)) (leb-true (length text) 4096)
  where
    by : (a b : Bool)
        → (a ≡ true → 0 < length text)
        → (b ≡ true → length text ≤ 4096)
        → (if a && b then Some text else None) ≡ Some name
        → IsFileName name
    by true true some few e = let same : text ≡ name = cc in subst IsFileName same (some refl, few refl)
    by true false some few e = cc
    by false b some few e = cc

-- a list of ids in its form
ids_are : (text : List ℕ) (list : List ℤ) → ids text ≡ Some list → AreIds list
ids_are text list = by (i64_list_of 65536 text) refl
  where
    by : (found : Option (List ℤ)) → i64_list_of 65536 text ≡ found → option_map rising found ≡ Some list → AreIds list
    by None is e = cc
    by (Some numbers) is e =
        let same : rising numbers ≡ list = cc in
        subst AreIds same (record {
          rises = rising-IsStrictlyRising (rising numbers) (rises-rising numbers);
          at_most = omega (arith, length-rising numbers, (length-i64_list_of 65536 text numbers is).1);
        })

-- digits up to a number are at most it
digits_are : (most : ℕ) (text : List ℕ) (number : ℕ) → digits_up_to most text ≡ Some number → number ≤ most
digits_are most [] number = λ e. absurd cc
digits_are most (byte ∷ bytes) number = by (list_all is_digit (byte ∷ bytes)) (nat_le (digits_value 10 (byte ∷ bytes)) most)
    (leb-true (digits_value 10 (byte ∷ bytes)) most)
  where
    by : (a b : Bool)
        → (b ≡ true → digits_value 10 (byte ∷ bytes) ≤ most)
        → (if a && b then Some (digits_value 10 (byte ∷ bytes)) else None) ≡ Some number
        → number ≤ most
    by true true few e = let same : digits_value 10 (byte ∷ bytes) ≡ number = cc in subst (λ n. n ≤ most) same (few refl)
    by true false few e = cc
    by false b few e = cc

-- a distance in its form
distance_is : (text : List ℕ) (number : ℕ) → distance text ≡ Some number → number ≤ 9223372036854775807
distance_is text number = digits_are 9223372036854775807 text number

-- a part of a factor in its form
part_is : (text : List ℕ) (number : ℕ) → part_of_factor text ≡ Some number → (1 ≤ number) × (number ≤ 1000000)
part_is text number = by (digits_up_to 1000000 text) refl
  where
    by : (found : Option ℕ) → digits_up_to 1000000 text ≡ found → option_and_then (λ n. if nat_lt 0 n then Some n else None) found ≡ Some number → (1 ≤ number) × (number ≤ 1000000)
    by None is e = cc
    by (Some n) is e = at (nat_lt 0 n) (ltb-true 0 n) e
      where
        at : (b : Bool) → (b ≡ true → 0 < n) → (if b then Some n else None) ≡ Some number → (1 ≤ number) × (number ≤ 1000000)
        at true some e = let same : n ≡ number = cc in (let one = some refl in omega arith, subst (λ k. k ≤ 1000000) same (digits_are 1000000 text n is))
        at false some e = cc

-- a factor of two parts in their form
factor_of_is : (over under : Option ℕ) (factor : Factor)
    → ((n : ℕ) → over ≡ Some n → (1 ≤ n) × (n ≤ 1000000))
    → ((n : ℕ) → under ≡ Some n → (1 ≤ n) × (n ≤ 1000000))
    → factor_of over under ≡ Some factor
    → IsFactor factor
factor_of_is None under factor p q e = absurd cc
factor_of_is (Some n) None factor p q e = absurd cc
factor_of_is (Some n) (Some d) factor p q e =
    let same : record { over = n; under = d } ≡ factor = cc in
    let over = p n refl in
    let under = q d refl in
    subst IsFactor same (record { over_least = over.0; over_most = over.1; under_least = under.0; under_most = under.1 })

-- a factor in its form
factor_is : (text : List ℕ) (fraction : Factor) → factor text ≡ Some fraction → IsFactor fraction
factor_is text fraction = by (parts_round is_slash text)
  where
    one : (n : ℕ) → Some 1 ≡ Some n → (1 ≤ n) × (n ≤ 1000000)
    one n e = let same : 1 ≡ n = cc in (omega arith, omega arith)

    by : (parts : Option (List ℕ × List ℕ)) → factor_in text parts ≡ Some fraction → IsFactor fraction
    by (Some parts) e = factor_of_is _ _ fraction (part_is parts.0) (part_is parts.1) e
    by None e = factor_of_is _ (Some 1) fraction (part_is text) one e

no_ids : AreIds []
no_ids = record { rises = λ i j d before inside. absurd (omega arith); at_most = omega arith }

-- ---- files that may be absent, and lists

abbrev Holds : Command → Type 0
Holds command = IfSome command.combinations IsFileName × AreIds command.starts × AreIds command.ends × AreIds command.vids × (command.distance ≤ 9223372036854775807)
    × IsFactor command.factor

-- one option more
holds_with : (o : OptionName) (text : List ℕ) (command : Command) → Holds command → Holds (with_given command (o, text))
holds_with option.Combinations text = field_keeps Holds (file_name text) _ (λ name is c h. (file_is text name is, h.1, h.2, h.3, h.4, h.5))
holds_with option.Start text = field_keeps Holds (ids text) _ (λ list is c h. (h.0, ids_are text list is, h.2, h.3, h.4, h.5))
holds_with option.End text = field_keeps Holds (ids text) _ (λ list is c h. (h.0, h.1, ids_are text list is, h.3, h.4, h.5))
holds_with option.Vids text = field_keeps Holds (ids text) _ (λ list is c h. (h.0, h.1, h.2, ids_are text list is, h.4, h.5))
holds_with option.Distance text = field_keeps Holds (distance text) _ (λ number is c h. (h.0, h.1, h.2, h.3, distance_is text number is, h.5))
holds_with option.Factor text = field_keeps Holds (factor text) _ (λ fraction is c h. (h.0, h.1, h.2, h.3, h.4, factor_is text fraction is))
holds_with _ text = field_keeps Holds _ _ (λ x is c h. h)

-- all of them
holds_after : (command : Command) (givens : List (OptionName × List ℕ)) → Holds command → Holds (fold with_given command givens)
holds_after command [] h = h
holds_after command (g ∷ givens) h = holds_after (with_given command g) givens (holds_with g.0 g.1 command h)

-- ---- an option that is given, and one that the function hasn't

-- what a good option brings, and every option leaves, holds where the option is among the given ones
brought : (P : Command → Type 0) (o : OptionName)
    → ((other : OptionName) (text : List ℕ) (command : Command) → P command → P (with_given command (other, text)))
    → ((other : OptionName) (text : List ℕ) (command : Command) → is_same other o ≡ true → is_in_form other text ≡ true → P (with_given command (other, text)))
    → (options : List OptionName) (command : Command) (givens : List (OptionName × List ℕ))
    → All (IsGoodOption options) givens
    → (is_among (options_in givens) o ≡ true) ⊎ P command
    → P (fold with_given command givens)
brought P o stays comes options command [] good (inl among) = cc
brought P o stays comes options command [] good (inr holds) = holds
brought P o stays comes options command (g ∷ givens) good (inr holds) =
    brought P o stays comes options (with_given command g) givens (All-tail (IsGoodOption options) g givens good) (inr (stays g.0 g.1 command holds))
brought P o stays comes options command (g ∷ givens) good (inl among) =
    brought P o stays comes options (with_given command g) givens (All-tail (IsGoodOption options) g givens good) (by (is_same g.0 o) refl among)
  where
    by : (b : Bool)
        → is_same g.0 o ≡ b
        → (b || is_among (options_in givens) o) ≡ true
        → (is_among (options_in givens) o ≡ true) ⊎ P (with_given command g)
    by true same e = inr (comes g.0 g.1 command same (All-head (IsGoodOption options) g givens good).in_form)
    by false same e = inl e

-- what every other option leaves stays where the function hasn't the option
left_alone : (P : Command → Type 0) (o : OptionName)
    → ((other : OptionName) (text : List ℕ) (command : Command) → is_same other o ≡ false → P command → P (with_given command (other, text)))
    → (options : List OptionName) (command : Command) (givens : List (OptionName × List ℕ))
    → All (IsGoodOption options) givens
    → is_among options o ≡ false
    → P command
    → P (fold with_given command givens)
left_alone P o leaves options command [] good absent holds = holds
left_alone P o leaves options command (g ∷ givens) good absent holds =
    left_alone P o leaves options (with_given command g) givens (All-tail (IsGoodOption options) g givens good) absent
    (leaves g.0 g.1 command (by (is_same g.0 o) refl) holds)
  where
    by : (b : Bool) → is_same g.0 o ≡ b → b ≡ false
    by false e = refl
    by true e = let among = is_among-along options g.0 o e (All-head (IsGoodOption options) g givens good).taken in cc

-- an option that the function has and needs is given, where nothing is missing
none_missing : (options stood : List OptionName) (o : OptionName)
    → ((other : OptionName) → is_same other o ≡ true → (rule_of other).need ≡ (rule_of o).need)
    → first_missing options stood ≡ None
    → is_needed stood (rule_of o).need ≡ true
    → is_among options o ≡ true
    → is_among stood o ≡ true
none_missing [] stood o alike none needed among = cc
none_missing (first ∷ options) stood o alike none needed among =
    by (is_same first o) (is_needed stood (rule_of first).need) (is_among stood first) refl refl refl none among (none_missing options stood o alike)
  where
    by : (b n a : Bool)
        → is_same first o ≡ b
        → is_needed stood (rule_of first).need ≡ n
        → is_among stood first ≡ a
        → cond (n && not a) (Some first) (first_missing options stood) ≡ None
        → (b || is_among options o) ≡ true
        → (first_missing options stood ≡ None → is_needed stood (rule_of o).need ≡ true → is_among options o ≡ true → is_among stood o ≡ true)
        → is_among stood o ≡ true
    by true n true same need_is stands e f later = is_among-along stood first o same stands
    by true true false same need_is stands e f later = cc
    by true false false same need_is stands e f later = let is_needed_too = ap (is_needed stood) (alike first same) in cc
    by false true true same need_is stands e f later = later e needed f
    by false true false same need_is stands e f later = cc
    by false false a same need_is stands e f later = later e needed f

-- ---- the file of edges

abbrev HasEdges : Command → Type 0
HasEdges command = IsFileName command.edges

abbrev with_edges : List ℕ → Command → Command
with_edges name command = record command { edges = name }

edges_stay : (o : OptionName) (text : List ℕ) (command : Command) → HasEdges command → HasEdges (with_given command (o, text))
edges_stay option.Edges text = field_keeps HasEdges (file_name text) _ (λ name is c h. file_is text name is)
edges_stay _ text = field_keeps HasEdges _ _ (λ x is c h. h)

-- what a field that is set holds
set_holds : {X : Type 0} (P : Command → Type 0) (field : X → Command → Command) (found : Option X)
    → ((x : X) → found ≡ Some x → (command : Command) → P (field x command))
    → (command : Command)
    → is_some (option_map field found) ≡ true
    → P (unwrap_or (option_map (λ fill. fill command) (option_map field found)) command)
set_holds P field None sets command e = cc
set_holds P field (Some x) sets command e = sets x refl command

edges_come : (o : OptionName) (text : List ℕ) (command : Command)
    → is_same o option.Edges ≡ true
    → is_in_form o text ≡ true
    → HasEdges (with_given command (o, text))
edges_come option.Edges text command same form = set_holds HasEdges with_edges (file_name text) (λ name is c. file_is text name is) command form
edges_come _ text command same form = cc

edges_alike : (o : OptionName) → is_same o option.Edges ≡ true → (rule_of o).need ≡ (rule_of option.Edges).need
edges_alike option.Edges same = refl
edges_alike _ same = cc

-- each function has the option
each_has_edges : list_all (λ row. is_among row.1.1 option.Edges) functions ≡ true
each_has_edges = refl

-- what holds of all rows of a table holds of the one that is looked up
looked_up : {X : Type 0} (p : List ℕ → Bool) (q : X → Bool) (rows : List (List ℕ × X)) (x : X)
    → list_all (λ row. q row.1) rows ≡ true
    → lookup p rows ≡ Some x
    → q x ≡ true
looked_up p q [] x all e = cc
looked_up {X} p q (row ∷ rows) x all e = by (p row.0) (q row.1) refl all e (looked_up p q rows x)
  where
    by : (b c : Bool)
        → q row.1 ≡ c
        → (c && list_all (λ row. q row.1) rows) ≡ true
        → cond b (Some row.1) (lookup p rows) ≡ Some x
        → (list_all (λ row. q row.1) rows ≡ true → lookup p rows ≡ Some x → q x ≡ true)
        → q x ≡ true
    by true true holds all e later = let same : row.1 ≡ x = cc in subst (λ y. q y ≡ true) same holds
    by false true holds all e later = later all e
    by b false holds all e later = cc

-- ---- lists that are needed

-- a list in its form has an id
some_ids : (text : List ℕ) (list : List ℤ) → ids text ≡ Some list → 0 < length list
some_ids text list = by (i64_list_of 65536 text) refl
  where
    by : (found : Option (List ℤ)) → i64_list_of 65536 text ≡ found → option_map rising found ≡ Some list → 0 < length list
    by None is e = cc
    by (Some numbers) is e =
        let same : rising numbers ≡ list = cc in
        subst (λ l. 0 < length l) same (some-rising numbers (length-i64_list_of 65536 text numbers is).0)

abbrev HasVids : Command → Type 0
HasVids command = 0 < length command.vids

vids_stay : (o : OptionName) (text : List ℕ) (command : Command) → HasVids command → HasVids (with_given command (o, text))
vids_stay option.Vids text = field_keeps HasVids (ids text) _ (λ list is c h. some_ids text list is)
vids_stay _ text = field_keeps HasVids _ _ (λ x is c h. h)

abbrev with_vids : List ℤ → Command → Command
with_vids list command = record command { vids = list }

vids_come : (o : OptionName) (text : List ℕ) (command : Command) → is_same o option.Vids ≡ true → is_in_form o text ≡ true → HasVids (with_given command (o, text))
vids_come option.Vids text command same form = set_holds HasVids with_vids (ids text) (λ list is c. some_ids text list is) command form
vids_come _ text command same form = cc

vids_alike : (o : OptionName) → is_same o option.Vids ≡ true → (rule_of o).need ≡ (rule_of option.Vids).need
vids_alike option.Vids same = refl
vids_alike _ same = cc

abbrev HasStarts : Command → Type 0
HasStarts command = 0 < length command.starts

starts_stay : (o : OptionName) (text : List ℕ) (command : Command) → HasStarts command → HasStarts (with_given command (o, text))
starts_stay option.Start text = field_keeps HasStarts (ids text) _ (λ list is c h. some_ids text list is)
starts_stay _ text = field_keeps HasStarts _ _ (λ x is c h. h)

abbrev with_starts : List ℤ → Command → Command
with_starts list command = record command { starts = list }

starts_come : (o : OptionName) (text : List ℕ) (command : Command) → is_same o option.Start ≡ true → is_in_form o text ≡ true → HasStarts (with_given command (o, text))
starts_come option.Start text command same form = set_holds HasStarts with_starts (ids text) (λ list is c. some_ids text list is) command form
starts_come _ text command same form = cc

starts_alike : (o : OptionName) → is_same o option.Start ≡ true → (rule_of o).need ≡ (rule_of option.Start).need
starts_alike option.Start same = refl
starts_alike _ same = cc

abbrev HasEnds : Command → Type 0
HasEnds command = 0 < length command.ends

ends_stay : (o : OptionName) (text : List ℕ) (command : Command) → HasEnds command → HasEnds (with_given command (o, text))
ends_stay option.End text = field_keeps HasEnds (ids text) _ (λ list is c h. some_ids text list is)
ends_stay _ text = field_keeps HasEnds _ _ (λ x is c h. h)

abbrev with_ends : List ℤ → Command → Command
with_ends list command = record command { ends = list }

ends_come : (o : OptionName) (text : List ℕ) (command : Command) → is_same o option.End ≡ true → is_in_form o text ≡ true → HasEnds (with_given command (o, text))
ends_come option.End text command same form = set_holds HasEnds with_ends (ids text) (λ list is c. some_ids text list is) command form
ends_come _ text command same form = cc

ends_alike : (o : OptionName) → is_same o option.End ≡ true → (rule_of o).need ≡ (rule_of option.End).need
ends_alike option.End same = refl
ends_alike _ same = cc

-- ---- combinations that are given

abbrev HasCombinations : Command → Type 0
HasCombinations command = is_some command.combinations ≡ true

combinations_stay : (o : OptionName) (text : List ℕ) (command : Command) → HasCombinations command → HasCombinations (with_given command (o, text))
combinations_stay option.Combinations text = field_keeps HasCombinations (file_name text) _ (λ name is c h. refl)
combinations_stay _ text = field_keeps HasCombinations _ _ (λ x is c h. h)

abbrev with_combinations : List ℕ → Command → Command
with_combinations name command = record command { combinations = Some name }

combinations_come : (o : OptionName) (text : List ℕ) (command : Command)
    → is_same o option.Combinations ≡ true
    → is_in_form o text ≡ true
    → HasCombinations (with_given command (o, text))
combinations_come option.Combinations text command same form = set_holds HasCombinations with_combinations (file_name text) (λ name is c. refl) command form
combinations_come _ text command same form = cc

-- ---- what other options leave

combinations_left : (o : OptionName) (text : List ℕ) (command : Command)
    → is_same o option.Combinations ≡ false
    → command.combinations ≡ None
    → (with_given command (o, text)).combinations ≡ None
combinations_left option.Combinations text command other h = cc
combinations_left _ text command other h = field_keeps (λ c. c.combinations ≡ None) _ _ (λ x is c h. h) command h

starts_left : (o : OptionName) (text : List ℕ) (command : Command) → is_same o option.Start ≡ false → command.starts ≡ [] → (with_given command (o, text)).starts ≡ []
starts_left option.Start text command other h = cc
starts_left _ text command other h = field_keeps (λ c. c.starts ≡ []) _ _ (λ x is c h. h) command h

ends_left : (o : OptionName) (text : List ℕ) (command : Command) → is_same o option.End ≡ false → command.ends ≡ [] → (with_given command (o, text)).ends ≡ []
ends_left option.End text command other h = cc
ends_left _ text command other h = field_keeps (λ c. c.ends ≡ []) _ _ (λ x is c h. h) command h

vids_left : (o : OptionName) (text : List ℕ) (command : Command) → is_same o option.Vids ≡ false → command.vids ≡ [] → (with_given command (o, text)).vids ≡ []
vids_left option.Vids text command other h = cc
vids_left _ text command other h = field_keeps (λ c. c.vids ≡ []) _ _ (λ x is c h. h) command h

directed_left : (o : OptionName) (text : List ℕ) (command : Command)
    → is_same o option.Directed ≡ false
    → command.directed ≡ true
    → (with_given command (o, text)).directed ≡ true
directed_left option.Directed text command other h = cc
directed_left _ text command other h = field_keeps (λ c. c.directed ≡ true) _ _ (λ x is c h. h) command h

distance_left : (o : OptionName) (text : List ℕ) (command : Command) → is_same o option.Distance ≡ false → command.distance ≡ 0 → (with_given command (o, text)).distance ≡ 0
distance_left option.Distance text command other h = cc
distance_left _ text command other h = field_keeps (λ c. c.distance ≡ 0) _ _ (λ x is c h. h) command h

equicost_left : (o : OptionName) (text : List ℕ) (command : Command)
    → is_same o option.Equicost ≡ false
    → command.equicost ≡ false
    → (with_given command (o, text)).equicost ≡ false
equicost_left option.Equicost text command other h = cc
equicost_left _ text command other h = field_keeps (λ c. c.equicost ≡ false) _ _ (λ x is c h. h) command h

heuristic_left : (o : OptionName) (text : List ℕ) (command : Command)
    → is_same o option.Heuristic ≡ false
    → command.heuristic ≡ H5
    → (with_given command (o, text)).heuristic ≡ H5
heuristic_left option.Heuristic text command other h = cc
heuristic_left _ text command other h = field_keeps (λ c. c.heuristic ≡ H5) _ _ (λ x is c h. h) command h

factor_left : (o : OptionName) (text : List ℕ) (command : Command)
    → is_same o option.Factor ≡ false
    → command.factor ≡ record { over = 1; under = 1 }
    → (with_given command (o, text)).factor ≡ record { over = 1; under = 1 }
factor_left option.Factor text command other h = cc
factor_left _ text command other h = field_keeps (λ c. c.factor ≡ record { over = 1; under = 1 }) _ _ (λ x is c h. h) command h

-- ---- a command

-- without combinations in the command none are given
none_given : (options : List OptionName) (command : Command) (givens : List (OptionName × List ℕ))
    → All (IsGoodOption options) givens
    → (fold with_given command givens).combinations ≡ None
    → not (is_among (options_in givens) option.Combinations) ≡ true
none_given options command givens good none =
    by (is_among (options_in givens) option.Combinations) (λ among. brought HasCombinations option.Combinations combinations_stay combinations_come options command givens good
    (inl among))
  where
    by : (b : Bool) → (b ≡ true → HasCombinations (fold with_given command givens)) → not b ≡ true
    by false some = refl
    by true some = subst (λ found. is_some found ≡ true) none (some refl)

pub in_form : (command : Command) (well : IsWellFormed command) → AreInForm well.options command
in_form command well =
    let begin = defaults command.function in
    let holds = holds_after begin well.given
    (tt, no_ids, no_ids, no_ids, omega arith, record { over_least = omega arith; over_most = omega arith; under_least = omega arith; under_most = omega arith }) in
    let has_edges = looked_up (bytes_eq well.name) (λ row. is_among row.1 option.Edges) functions (command.function, well.options) each_has_edges well.function in
    let stood = options_in well.given in
    let edges = none_missing well.options stood option.Edges edges_alike well.complete refl has_edges in
    let made : AreInForm well.options (command_with command.function well.given) = record {
      edges = brought HasEdges option.Edges edges_stay edges_come well.options begin well.given well.good (inl edges);
      combinations = holds.0;
      starts = holds.1;
      ends = holds.2;
      vids = holds.3;
      distance = holds.4;
      factor = holds.5;
      starts_needed = λ has none. brought HasStarts option.Start starts_stay starts_come well.options begin well.given well.good
          (inl (none_missing well.options stood option.Start starts_alike well.complete (none_given well.options begin well.given well.good none) has));
      ends_needed = λ has none. brought HasEnds option.End ends_stay ends_come well.options begin well.given well.good
          (inl (none_missing well.options stood option.End ends_alike well.complete (none_given well.options begin well.given well.good none) has));
      vids_needed = λ has. brought HasVids option.Vids vids_stay vids_come well.options begin well.given well.good
          (inl (none_missing well.options stood option.Vids vids_alike well.complete refl has));
      combinations_unused = λ absent. left_alone (λ c. c.combinations ≡ None) option.Combinations combinations_left well.options begin well.given well.good absent refl;
      starts_unused = λ absent. left_alone (λ c. c.starts ≡ []) option.Start starts_left well.options begin well.given well.good absent refl;
      ends_unused = λ absent. left_alone (λ c. c.ends ≡ []) option.End ends_left well.options begin well.given well.good absent refl;
      vids_unused = λ absent. left_alone (λ c. c.vids ≡ []) option.Vids vids_left well.options begin well.given well.good absent refl;
      directed_unused = λ absent. left_alone (λ c. c.directed ≡ true) option.Directed directed_left well.options begin well.given well.good absent refl;
      distance_unused = λ absent. left_alone (λ c. c.distance ≡ 0) option.Distance distance_left well.options begin well.given well.good absent refl;
      equicost_unused = λ absent. left_alone (λ c. c.equicost ≡ false) option.Equicost equicost_left well.options begin well.given well.good absent refl;
      heuristic_unused = λ absent. left_alone (λ c. c.heuristic ≡ H5) option.Heuristic heuristic_left well.options begin well.given well.good absent refl;
      factor_unused = λ absent. left_alone (λ c. c.factor ≡ record { over = 1; under = 1 }) option.Factor factor_left well.options begin well.given well.good absent refl;
    } in
    subst (AreInForm well.options) (sym well.fields) made
