use Rattle.std.proofs.Common.{◌≡◌, ℕ, ◌≤◌, List, [], ◌++◌, length, ap, ap₂, sym, subst, ◌∙◌, arith}
use Rattle.std.proofs.lemmas.List.{append-nil, drop_all, with_items_is}
use Rattle.std.proofs.lemmas.List.Elements.{All-nil}
use Rattle.mask_trace.specs.Values.{HasShares}
use Rattle.mask_chain.specs.Chains.{registers}
use Rattle.mask_chain.proofs.Registers.{has_shares, put_front}
use Rattle.mask_chain.proofs.chains.ChainRun.new.Goals as goal

pub returns-clause-shares : goal.returns-clause-shares
returns-clause-shares g c =
    let key = c.args.key.now in
    let old = c.deref_mut.result.now in
    let filled : length old ≤ length key = omega (arith, ap length c.deref_mut.ensures.value, c.in_ok-own.ensures.len, c.in_ok-own.own.ok.0) in
    let long : length c.put.new.places ≡ c.in_ok-own.own.len = omega arith in
    let placed = put_front key old c.put.new.places c.put.ensures.front c.put.ensures.rest
    ∙ ap (λ (rest : List (List ℕ)). key ++ rest) (drop_all (length key) old filled) ∙ append-nil key in
    subst (HasShares g.row.N (length key) 0)
    (sym (ap₂ registers (with_items_is c.in_ok-own.own c.put.new.places long ∙ placed) c.new.ensures.items))
    (has_shares g.row.N key [] c.put.ensures.counts (All-nil (λ (value : List ℕ). length value ≡ g.row.N)))
