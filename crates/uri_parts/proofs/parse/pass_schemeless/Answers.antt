use Rattle.uri_parts.proofs.Common.{◌≡◌, ◌∷◌, ◌&&◌, ◌∙◌, ℕ, List, [], Bool, true, false, arith, ap, drop, refl, subst, sym, codes, None, ◌==◌, eqb-true, false≢true, ne_eqb, valid_prefix, LacksPercent, TableSet, is_one_of, excludes, valid_prefix_at_mark_is_empty, empty_text_has_empty_valid_prefix, has_authority, is_end, starts, Kind, first_segment_set, kind_by_flags, path_positions, relative_positions, schemeless_positions, schemeless_error, packed, error_from_path, error_from_relative_path}
use Rattle.uri_parts.proofs.TextKinds.KindSets.{each_kind_separates_components}
use Rattle.uri_parts.proofs.parse.pass_schemeless.Goals as goal

-- no first segment is next: nothing is, or a character that ends one, which is neither `%` (37) nor
-- `:` (58)
record HasNoSegment (set : TableSet) (rest : List ℕ) : Type 0 where
  empty : valid_prefix set rest ≡ 0
  percent : starts 37 rest ≡ false
  colon : starts 58 rest ≡ false

none_at_end : (set : TableSet) (rest : List ℕ) → is_end rest ≡ true → HasNoSegment set rest
unfolding is_end
none_at_end set [] e =
    record { empty = empty_text_has_empty_valid_prefix set; percent = refl; colon = refl }
none_at_end set (b ∷ rest) e = absurd (false≢true e)

none_at_slash : (set : TableSet) → LacksPercent set → excludes set (codes ":/?#") ≡ true
    → (rest : List ℕ) → starts 47 rest ≡ true → HasNoSegment set rest
none_at_slash set lacks outside [] e = absurd (false≢true e)
none_at_slash set lacks outside (b ∷ rest) e = record {
  empty = valid_prefix_at_mark_is_empty (codes ":/?#") set lacks outside b rest
      (ap (is_one_of (codes ":/?#")) (eqb-true b 47 e));
  percent = ap (λ c. starts 37 (c ∷ rest)) (eqb-true b 47 e);
  colon = ap (λ c. starts 58 (c ∷ rest)) (eqb-true b 47 e);
}

-- before `/` (47) there is no first segment, in each of the kinds
none_of_kind_at_slash : (kind : Kind) → kind ≡ kind_by_flags kind.path.ucschar kind.needs_scheme
    → (rest : List ℕ) → starts 47 rest ≡ true → HasNoSegment (first_segment_set kind) rest
none_of_kind_at_slash kind known rest e =
    let sets = each_kind_separates_components kind known in
    none_at_slash (first_segment_set kind) sets.segment_lacks sets.segment_marks rest e

-- where there is no authority and no first segment, the path goes on from there
module _ (set : TableSet) (kind : Kind) (text : List ℕ) (i : ℕ)
    (other : (i == 0 && has_authority (drop i text)) ≡ false)
    (none : HasNoSegment set (drop i text)) where
  positions_from_here : schemeless_positions set kind i (drop i text)
      ≡ path_positions kind None None 0 i (drop i text)
  unfolding schemeless_positions relative_positions
  positions_from_here = grind arith

  -- the positions in six words, where n is the index of the text t
  abbrev IsFrom : ℕ → List ℕ → Type 0
  IsFrom n t = packed (schemeless_positions set kind i (drop i text))
      ≡ record (packed (path_positions kind None None 0 n (drop n t))) {
        scheme_end = 0;
        host_start = 0;
        host_end = 0;
      }

  packed_from_here : (n : ℕ) (t : List ℕ) → n ≡ i → t ≡ text → IsFrom n t
  unfolding path_positions
  packed_from_here n t place same = subst
      (IsFrom n) (sym same) (subst (λ m. IsFrom m text) (sym place) (ap packed positions_from_here))

  error_from_here : schemeless_error set kind text i ≡ error_from_path kind text i
  unfolding schemeless_error error_from_relative_path
  error_from_here = grind arith

pub returns-then-is_at_end-clause-places : goal.returns-then-is_at_end-clause-places
returns-then-is_at_end-clause-places g c =
    let set = first_segment_set g.K.Kind.kind in
    let cursor = c.args.cursor.now in
    let rest = drop cursor.position cursor.text.now in
    let next = c.skip_slashes.new.self in
    let place : next.position ≡ cursor.position = grind arith in
    let other : (cursor.position == 0 && has_authority rest) ≡ false = grind arith in
    let ends : is_end rest ≡ true = grind arith in
    packed_from_here set g.K.Kind.kind cursor.text.now cursor.position other
    (none_at_end set rest ends) next.position next.text.now place c.skip_slashes.ensures.text

pub returns-then-is_at_end-clause-refused : goal.returns-then-is_at_end-clause-refused
returns-then-is_at_end-clause-refused g c = grind (arith, none_at_end, error_from_here)

-- the character next to a cursor is `/`, and it has passed others
module _ (kind : Kind) (known : kind ≡ kind_by_flags kind.path.ucschar kind.needs_scheme)
    (text : List ℕ) (i : ℕ) (some : i ≡ 0 → ⊥) (is_next : Bool)
    (value : is_next ≡ starts 47 (drop i text)) (yes : is_next ≡ true) where
  none_here : HasNoSegment (first_segment_set kind) (drop i text)
  none_here = none_of_kind_at_slash kind known (drop i text) (sym value ∙ yes)

  no_authority : (i == 0 && has_authority (drop i text)) ≡ false
  no_authority = ap (λ b. b && has_authority (drop i text)) (ne_eqb i 0 some)

  packed_at_slash : IsFrom (first_segment_set kind) kind text i no_authority none_here i text
  packed_at_slash =
      packed_from_here (first_segment_set kind) kind text i no_authority none_here i text refl refl

  error_at_slash : schemeless_error (first_segment_set kind) kind text i
      ≡ error_from_path kind text i
  error_at_slash = error_from_here (first_segment_set kind) kind text i no_authority none_here

pub returns-then-next_is-clause-places : goal.returns-then-next_is-clause-places
returns-then-next_is-clause-places g c =
    let some : c.args.cursor.now.position ≡ 0 → ⊥ = λ e. grind (arith, e) in
    packed_at_slash g.K.Kind.kind g.met.K.Kind.known c.args.cursor.now.text.now
    c.args.cursor.now.position some _ c.next_is.ensures c.if-next_is.true

pub returns-then-next_is-clause-refused : goal.returns-then-next_is-clause-refused
returns-then-next_is-clause-refused g c =
    let some : c.args.cursor.now.position ≡ 0 → ⊥ = λ e. grind (arith, e) in
    error_at_slash g.K.Kind.kind g.met.K.Kind.known c.args.cursor.now.text.now
    c.args.cursor.now.position some _ c.next_is.ensures c.if-next_is.true
