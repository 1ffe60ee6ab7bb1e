use Rattle.uri_streams.proofs.Common.{◌≢◌, ◌-◌, ◌++◌, [], All, take, sym, ap, subst, ◌∙◌, rules, arith, eq-eqb, eqb-true, true≢false, get_or, get_or-take, length, length-take-le, append-nil, All-nil, All-more, reader_remaining, reader_buffer, FillKeeps, Some, Consumes, Consumes-nil, Consumes-kept, Consumes_shown, zero_unless_positive, take-nil}
use Rattle.std.proofs.lemmas.Result.{IfOk-weaker}
use Rattle.std.proofs.Transfers.{StopsAt-take}
use Rattle.uri_streams.proofs.Parts.{take-min}
use Rattle.uri_streams.proofs.source.Source.take_part.Goals.{then-count-eq0, else-count-eq0}
use Rattle.uri_streams.proofs.source.Source.take_part.Goals as goal

pub returns-in-Err-clause-taken : goal.returns-in-Err-clause-taken
returns-in-Err-clause-taken g c =
    IfOk-weaker c.part_after_error.result _ _ (λ part (again, none, last, is). (
      [],
      sym none,
      sym (ap (λ l. c.args.line.now.items ++ l) (take-nil (c.args.limit - length
          c.args.line.now.items)) ∙ append-nil c.args.line.now.items),
      All-nil (λ x. x ≢ c.args.end),
      subst (λ r. Consumes (reader_remaining g.R.Read.remaining c.args.self.now.reader)
          (reader_remaining g.R.Read.remaining r) []) (sym c.part_after_error.ensures.kept)
          (Consumes-kept _ _ _ [] (Consumes-nil _) c.fill_buf.follows.holds-at-none.0),
      λ _. All-nil (λ x. x ≢ c.args.end),
      λ done. absurd (true≢false (sym done ∙ last)),
      λ done. absurd (true≢false (sym done ∙ last)),
      is,
    )) c.part_after_error.ensures.again

pub returns-clause-taken : goal.returns-clause-taken
returns-clause-taken g c =
    let shown = c.in-Ok.available.now in
    let end = c.count_through-count in
    let long = length-take-le end.result shown end.ensures.bound in
    let rested = c.fill_buf.follows.lender-at-none in
    let filled = subst (FillKeeps (reader_remaining g.R.Read.remaining c.args.self.now.reader)
    (reader_remaining g.R.Read.remaining rested) (Some (length (reader_buffer rested))))
    c.in-Ok.is c.fill_buf.follows.holds-at-none in
    let moved = Consumes_shown (reader_remaining g.R.Read.remaining c.args.self.now.reader)
    (reader_remaining g.R.Read.remaining rested)
    (reader_remaining g.R.Read.remaining c.consume.new.self) (Some (length (reader_buffer rested)))
    shown end.result end.ensures.bound c.in-Ok.ensures.front c.in-Ok.ensures.end filled.0
    filled.1 c.consume.ensures.bytes in (
      take end.result shown,
      long,
      c.in_ok-extend_from_slice.ensures.items ∙ ap (λ l. c.args.line.now.items ++ l)
          (take-min c.min-kept.result end.result (c.args.limit - length c.args.line.now.items)
          shown end.ensures.bound (search rules)),
      StopsAt-take _ _ _ end.ensures.bound end.ensures.before,
      moved.0,
      λ more. elim c.if-count-eq0.branch [
        | then-count-eq0 w ↦ absurd (more (search rules))
        | else-count-eq0 w ↦ subst (λ k. All (λ x. x ≢ c.args.end) (take k shown)) (omega (
          arith,
          w.if-count-eq0.false,
        ))
            (All-more (λ x. x ≢ c.args.end) _ (end.result - 1) 0 (omega (
              arith,
              w.if-count-eq0.false,
              end.ensures.bound,
            )) end.ensures.before (λ e. more
            (w.is_last-is ∙ eq-eqb _ _ e)))
      ],
      λ done some. elim c.if-count-eq0.branch [
        | then-count-eq0 w ↦ absurd (omega (arith, w.if-count-eq0.true))
        | else-count-eq0 w ↦ ap (λ n. get_or (take end.result shown) (n - 1) 0) long
            ∙ get_or-take end.result shown (end.result - 1) 0 (omega arith) ∙ eqb-true _ _ (sym
            w.is_last-is ∙ done)
      ],
      λ _ none. moved.1 (zero_unless_positive _ _ end.ensures.some (sym long ∙ none)),
      search rules,
    )
