-- A component that may be absent, with its delimiter.
use Rattle.uri_abnf.proofs.Common.{◌≡◌, ℕ, List, [], ◌++◌, sym, ap, subst, ◌∙◌, ⊎_elim, append-nil, Option, None, Some, IfSome, marked, Abnf, Literal, IsOf, opt, ◌⋅◌}
use Rattle.uri_abnf.proofs.Texts.{IsMark, cut-gives, cut-is-had, opt-gives, opt-is-had, opt-has-nothing, mark-gives, mark-is-had}

module _ (mark : List ℕ) (is : IsMark mark) (g : Abnf) where
  -- a component of the expression after the mark
  pub record IsAfter (t : List ℕ) : Type 0 where
    pub part : Option (List ℕ)
    pub whole : marked mark part [] ≡ t
    pub is_of : IfSome part (IsOf g)

  -- a component of the expression before the mark
  pub record IsBefore (t : List ℕ) : Type 0 where
    pub part : Option (List ℕ)
    pub whole : marked [] part mark ≡ t
    pub is_of : IfSome part (IsOf g)

  pub after-gives : (t : List ℕ) → IsOf (opt (Literal mark ⋅ g)) t → IsAfter t
  after-gives t l = ⊎_elim
      (λ e. record { part = None; whole = sym e; is_of = tt })
      (λ n.
      let k = cut-gives (Literal mark) g t n in
      record {
        part = Some k.y;
        whole = append-nil (mark ++ k.y)
            ∙ sym (k.whole ∙ ap (λ r. r ++ k.y) (mark-gives mark is k.x k.first));
        is_of = k.second;
      }) (opt-gives (Literal mark ⋅ g) t l)

  pub after-is-had : (o : Option (List ℕ)) → IfSome o (IsOf g)
      → IsOf (opt (Literal mark ⋅ g)) (marked mark o [])
  after-is-had None h = opt-has-nothing (Literal mark ⋅ g)
  after-is-had (Some x) h = subst (IsOf (opt (Literal mark ⋅ g))) (sym (append-nil (mark ++ x)))
      (opt-is-had _ _ (cut-is-had (Literal mark) g mark x (mark-is-had mark is) h))

  pub before-gives : (t : List ℕ) → IsOf (opt (g ⋅ Literal mark)) t → IsBefore t
  before-gives t l = ⊎_elim
      (λ e. record { part = None; whole = sym e; is_of = tt })
      (λ n.
      let k = cut-gives g (Literal mark) t n in
      record {
        part = Some k.x;
        whole = sym (k.whole ∙ ap (λ r. k.x ++ r) (mark-gives mark is k.y k.second));
        is_of = k.first;
      }) (opt-gives (g ⋅ Literal mark) t l)

  pub before-is-had : (o : Option (List ℕ)) → IfSome o (IsOf g)
      → IsOf (opt (g ⋅ Literal mark)) (marked [] o mark)
  before-is-had None h = opt-has-nothing (g ⋅ Literal mark)
  before-is-had (Some x) h =
      opt-is-had _ _ (cut-is-had g (Literal mark) x mark h (mark-is-had mark is))
