use Rattle.std.proofs.Common.{◌∙◌, ◌-◌, ap, arith, drop, length, subst, sym, take}
use Rattle.std.proofs.lemmas.Result.{on_err_weaker}
use Rattle.domain_load.specs.Loading.{changed}
use Rattle.domain_load.specs.Used.{AreFreeFor, left_by}
use Rattle.domain_load.proofs.Users.{first_back, first_rest, others_free}
use Rattle.domain_load.proofs.used.+put_all.Goals as goal

pub put_all-put-requires : goal.put_all-put-requires
put_all-put-requires t c =
    let by = c.args.by.now in
    let rows = c.args.rows.now.entries in
    let names = c.args.domains.now in
    let name = c.first-item.result in
    let rest = take (length names - 1) (drop 1 names) in
    let is = first_rest names name c.in-len1-up.len_at_least c.first-item.is in
    let fewer = ap length is in (
      omega (arith, fewer),
      subst (λ rs. AreFreeFor by rest rs) (sym c.in_ok-put_one.ensures.put) (others_free by name rest rows (subst (λ ns. AreFreeFor by ns rows) is c.requires)),
    )

pub returns-then-is_err-clause-kept : goal.returns-then-is_err-clause-kept
returns-then-is_err-clause-kept t c =
    let by = c.args.by.now in
    let rows = c.args.rows.now.entries in
    let names = c.args.domains.now in
    let name = c.first-item.result in
    let rest = take (length names - 1) (drop 1 names) in
    let is = first_rest names name c.in-len1-up.len_at_least c.first-item.is in
    on_err_weaker c.put_all-put.result
    (λ kept. c.take_one.ensures.taken ∙ ap (changed name (left_by by)) (kept ∙ c.in_ok-put_one.ensures.put) ∙ first_back by name rest rows (subst (λ ns. AreFreeFor by ns rows) is c.requires))
    c.put_all-put.ensures.kept
