use Rattle.std.proofs.Common.{ℕ, ◌≡◌, ◌/◌, ◌%◌, true, nat_eq, refl, inl, inr}
use Rattle.std.proofs.lemmas.Bool.{agree_below, agree_below_at}
use Rattle.mask_bits.specs.Reading.{bit}
use Rattle.mask_bits.specs.Square.{IsMask}
use Rattle.mask_bits.proofs.Exchange.{mixed_none, mixed_more, mixed_all}
use Rattle.mask_bits.proofs.square.transpose_64.Goals as goal

-- a mask is tested at each of its 64 places
tested : (w mask : ℕ) → agree_below (λ k. bit k mask) (λ k. nat_eq (k / w % 2) 0) 64 ≡ true → IsMask w mask
tested w mask same j h = agree_below_at (λ k. bit k mask) (λ k. nat_eq (k / w % 2) 0) 64 j same h

pub exchange-requires-clause-mask : goal.exchange-requires-clause-mask
exchange-requires-clause-mask c = tested 32 0x0000_0000_ffff_ffff refl

pub exchange-requires-2-clause-mask : goal.exchange-requires-2-clause-mask
exchange-requires-2-clause-mask c = tested 16 0x0000_ffff_0000_ffff refl

pub exchange-requires-3-clause-mask : goal.exchange-requires-3-clause-mask
exchange-requires-3-clause-mask c = tested 8 0x00ff_00ff_00ff_00ff refl

pub exchange-requires-4-clause-mask : goal.exchange-requires-4-clause-mask
exchange-requires-4-clause-mask c = tested 4 0x0f0f_0f0f_0f0f_0f0f refl

pub exchange-requires-5-clause-mask : goal.exchange-requires-5-clause-mask
exchange-requires-5-clause-mask c = tested 2 0x3333_3333_3333_3333 refl

pub exchange-requires-6-clause-mask : goal.exchange-requires-6-clause-mask
exchange-requires-6-clause-mask c = tested 1 0x5555_5555_5555_5555 refl

pub returns : goal.returns
returns c =
    let start = c.args.rows.now in
    let m32 = mixed_more 32 start _ _ (inl refl) (mixed_none start) c.exchange.ensures in
    let m16 = mixed_more 16 start _ _ (inr (inl refl)) m32 c.exchange-2.ensures in
    let m8 = mixed_more 8 start _ _ (inr (inr (inl refl))) m16 c.exchange-3.ensures in
    let m4 = mixed_more 4 start _ _ (inr (inr (inr (inl refl)))) m8 c.exchange-4.ensures in
    let m2 = mixed_more 2 start _ _ (inr (inr (inr (inr (inl refl))))) m4 c.exchange-5.ensures in
    mixed_all start _ (mixed_more 1 start _ _ (inr (inr (inr (inr (inr refl))))) m2 c.exchange-6.ensures)
