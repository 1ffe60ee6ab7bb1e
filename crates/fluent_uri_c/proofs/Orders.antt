-- Exports for C: the order of keys of tables, which are normal forms.
use Rattle.fluent_uri_c.proofs.Common.{arith, ◌≡◌, ◌↔◌, ◌⊎◌, ℕ, Bool, true, List, sym, ap, ◌∙◌, Option, Some, None, Ok, Ordering, Equal, fold, result_ok, Kind, rules_of_set, RuleSet, fnv_write, normal_form_of, normal_result, text_error}
use Rattle.std.proofs.lemmas.Map.Text.{is_eq-slice_cmp}
use Rattle.std.proofs.lemmas.Slice.Eq.{bytes_eq-Decides}
use Rattle.std.specs.Cmp.{Equal-is}
use Rattle.std.specs.Option.{unwrap_or}
use Rattle.uri_order.specs.HashedTexts.{hashed_text}
use Rattle.uri_order.specs.NormalForms.{normal_form}
use Rattle.fluent_uri_c.specs.declared.fnv.Fnv.{Fnv}
use Rattle.fluent_uri_c.specs.Orders.{AreOneKey, byte_order, hash_of_bytes, key_order, order_of_keys, seeded}

pub form-by-set : (given set : RuleSet) → given ≡ set → (kind : Kind) (text : List ℕ)
    → normal_form kind (rules_of_set given) text ≡ normal_form_of set kind text
unfolding normal_form_of
form-by-set given set e kind text = ap (λ rules. normal_form kind (rules_of_set rules) text) e

pub order-of-same-texts : (order : Ordering) (one other same same_other : List ℕ) → one ≡ same
    → other ≡ same_other → order ≡ byte_order one other → order ≡ byte_order same same_other
order-of-same-texts order one other same same_other e f h = h ∙ (λ i. byte_order (e i) (f i))

normal_result-of-text : (set : RuleSet) (kind : Kind) (bytes text : List ℕ)
    → None ≡ text_error kind bytes → text ≡ bytes
    → normal_result set kind bytes ≡ Ok (normal_form_of set kind text)
normal_result-of-text set kind bytes text none same = grind arith

pub order-of-two-texts : (set : RuleSet) (kind : Kind) (one other first second : List ℕ)
    (order : Ordering) → None ≡ text_error kind one → first ≡ one → None ≡ text_error kind other
    → second ≡ other → byte_order (normal_form_of set kind first) (normal_form_of set kind second)
    ≡ order_of_keys (result_ok (normal_result set kind one))
    (result_ok (normal_result set kind other)) order
order-of-two-texts set kind one other first second order none same no_other same_other =
    grind (arith, normal_result-of-text)

same-bytes-are-equal-in-order : (one other : List ℕ)
    → (byte_order one other ≡ Equal) ↔ (one ≡ other)
same-bytes-are-equal-in-order one other =
    let test = is_eq-slice_cmp one other in
    let same = bytes_eq-Decides one other in
    let equal = Equal-is (byte_order one other) in
    (λ e. same.0 (sym test ∙ equal.1 e), λ e. equal.0 (test ∙ same.1 e))

-- exports for C: two texts with normal forms are one key exactly if these are equal
same-keys : (one other : Option (List ℕ)) (raw raw_other : List ℕ) → (order_of_keys one other
    (byte_order raw raw_other) ≡ Equal) ↔ (((normal : List ℕ) × ((one ≡ Some normal)
    × (other ≡ Some normal))) ⊎ ((one ≡ None) × ((other ≡ None) × (raw ≡ raw_other))))
same-keys one other raw raw_other = grind (arith, same-bytes-are-equal-in-order)

pub equal-keys-are-one : (kind options : ℕ) (one other : List ℕ) (order : Ordering)
    → order ≡ key_order kind options one other → (order ≡ Equal) ↔ AreOneKey kind options one other
equal-keys-are-one kind options one other order e = grind (arith, same-keys)

-- exports for C: a text of the kind is its own normal form exactly if normalising returns it
pub own-normal-result : (set : RuleSet) (kind : Kind) (bytes text : List ℕ) (is_normal : Bool)
    → None ≡ text_error kind bytes → text ≡ bytes
    → (is_normal ≡ true) ↔ (normal_form_of set kind text ≡ text)
    → (is_normal ≡ true) ↔ (normal_result set kind bytes ≡ Ok bytes)
own-normal-result set kind bytes text is_normal none same h = grind (arith, normal_result-of-text)

-- exports for C: a hasher that begins with the seed and is given a normal form has its hash
pub hash-of-form : (seed : ℕ) (form same : List ℕ) (old new : Fnv) → old ≡ seeded seed
    → form ≡ same → new ≡ fold fnv_write old (hashed_text form)
    → new.state ≡ hash_of_bytes seed same
hash-of-form seed form same old new begun e h = grind arith

pub hash-of-text : (set : RuleSet) (kind : Kind) (bytes text : List ℕ) (seed : ℕ)
    → None ≡ text_error kind bytes → text ≡ bytes
    → hash_of_bytes seed (normal_form_of set kind text)
    ≡ hash_of_bytes seed (unwrap_or (result_ok (normal_result set kind bytes)) bytes)
hash-of-text set kind bytes text seed none same = grind (arith, normal_result-of-text)
