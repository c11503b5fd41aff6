-- What is known of the words of a job, of its order, and of its count.
use Rattle.std.proofs.Common.{◌≡◌, ◌≤◌, None, List, [], get_or, true, refl, arith, lit<}
use Rattle.std.proofs.lemmas.Bool.Decides.{nat_tests}
use Rattle.mask_words.specs.declared.table.Form.{Form}
use Rattle.mask_words.specs.declared.table.Form.TheVariants as forms
use Rattle.mask_words.specs.declared.word_tests.Test.TheVariants.{Wire}
use Rattle.mask_words.specs.WordTests.{Word, is_order}
use Rattle.mask_words.specs.Jobs.{Match, tests_of, tail_of, order_of, job_of, HasOrder, HasCount, HasWords}
use Rattle.mask_words.proofs.Numbers.{is_number_between-Decides}
use Rattle.mask_words.proofs.Matching.{Match-at, Match-past, Match-length, reach-match}

-- the order that an ORDER word names
order_of-bounds : (w : Word) → is_order w ≡ true → (1 ≤ order_of w) × (order_of w ≤ 7)
order_of-bounds w h = grind (arith, nat_tests)

pub HasOrder-job_of : (f : Form) (ws : List Word) → Match (tests_of f) (tail_of f) ws → HasOrder (job_of f ws)
HasOrder-job_of forms.EncPresent ws m = order_of-bounds (get_or ws 4 []) (Match-at (tests_of forms.EncPresent) None ws 4 m (lit< tt))
HasOrder-job_of forms.EncLea ws m = order_of-bounds (get_or ws 4 []) (Match-at (tests_of forms.EncLea) None ws 4 m (lit< tt))
HasOrder-job_of forms.EncTrivium ws m = order_of-bounds (get_or ws 4 []) (Match-at (tests_of forms.EncTrivium) None ws 4 m (lit< tt))
HasOrder-job_of forms.MacChaskey ws m = order_of-bounds (get_or ws 4 []) (Match-at (tests_of forms.MacChaskey) None ws 4 m (lit< tt))
HasOrder-job_of forms.MacLightMac ws m = order_of-bounds (get_or ws 4 []) (Match-at (tests_of forms.MacLightMac) None ws 4 m (lit< tt))
HasOrder-job_of forms.Eval ws m = order_of-bounds (get_or ws 3 []) (Match-at (tests_of forms.Eval) None ws 3 m (lit< tt))
HasOrder-job_of forms.Check ws m = tt
HasOrder-job_of forms.Upgrade ws m = tt
HasOrder-job_of forms.Probe ws m = order_of-bounds (get_or ws 3 []) (Match-at (tests_of forms.Probe) (tail_of forms.Probe) ws 3 m (lit< tt))
HasOrder-job_of forms.Split ws m = order_of-bounds (get_or ws 3 []) (Match-at (tests_of forms.Split) None ws 3 m (lit< tt))
HasOrder-job_of forms.Join ws m = order_of-bounds (get_or ws 3 []) (Match-at (tests_of forms.Join) None ws 3 m (lit< tt))
HasOrder-job_of forms.Emit ws m = tt
HasOrder-job_of forms.SelfRun ws m = order_of-bounds (get_or ws 5 []) (Match-at (tests_of forms.SelfRun) None ws 5 m (lit< tt))

pub HasCount-job_of : (f : Form) (ws : List Word) → Match (tests_of f) (tail_of f) ws → HasCount (job_of f ws)
HasCount-job_of forms.SelfRun ws m =
    ((is_number_between-Decides 1 1048576 (get_or ws 4 [])).0 (Match-at (tests_of forms.SelfRun) None ws 4 m (lit< tt))).0
HasCount-job_of forms.EncPresent ws m = tt
HasCount-job_of forms.EncLea ws m = tt
HasCount-job_of forms.EncTrivium ws m = tt
HasCount-job_of forms.MacChaskey ws m = tt
HasCount-job_of forms.MacLightMac ws m = tt
HasCount-job_of forms.Eval ws m = tt
HasCount-job_of forms.Check ws m = tt
HasCount-job_of forms.Upgrade ws m = tt
HasCount-job_of forms.Probe ws m = tt
HasCount-job_of forms.Split ws m = tt
HasCount-job_of forms.Join ws m = tt
HasCount-job_of forms.Emit ws m = tt

pub HasWords-job_of : (f : Form) (ws : List Word) → Match (tests_of f) (tail_of f) ws → HasWords ws (job_of f ws)
HasWords-job_of forms.EncPresent ws m = tt
HasWords-job_of forms.EncLea ws m = tt
HasWords-job_of forms.EncTrivium ws m = tt
HasWords-job_of forms.MacChaskey ws m = tt
HasWords-job_of forms.MacLightMac ws m = tt
HasWords-job_of forms.Eval ws m = record {
  count = Match-length (tests_of forms.Eval) ws m;
  order_word = refl;
  hex_word = Match-at (tests_of forms.Eval) None ws 4 m (lit< tt);
}
HasWords-job_of forms.Check ws m = tt
HasWords-job_of forms.Upgrade ws m = tt
HasWords-job_of forms.Probe ws m = record {
  count = (reach-match (tests_of forms.Probe) (tail_of forms.Probe) ws m).1;
  order_word = refl;
  wire_words = λ k h l. Match-past (tests_of forms.Probe) Wire ws k m h l;
}
HasWords-job_of forms.Split ws m = tt
HasWords-job_of forms.Join ws m = tt
HasWords-job_of forms.Emit ws m = tt
HasWords-job_of forms.SelfRun ws m = tt
