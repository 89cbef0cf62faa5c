-- One more entry is taken in, or is damaged.
use Rattle.std.proofs.Common.{◌≡◌, ◌+◌, ◌++◌, sym, subst, take, drop}
use Rattle.std.proofs.lemmas.List.{append-nil, take_all}
use Rattle.hippo_model.specs.Stores.{IsDamagedAt}
use Rattle.hippo_keeper.specs.Keeping.{Store}
use Rattle.hippo_typing.specs.Meanings.{meaning}
use Rattle.hippo_replay.specs.TakingIn.{HasLoaded}
use Rattle.hippo_tables.proofs.RowLemmas.{drop_at_member}
use Rattle.hippo_replay.proofs.TakingInLemmas.{cut_there, taken_more, rises_there}
use Rattle.hippo_replay.proofs.state.State.take_in_all.Goals as goal

pub loop-kept-init : goal.loop-kept-init
loop-kept-init c = record {
  taken = λ store loaded. subst (λ (s : Store). HasLoaded c.args.self.now s) (sym (append-nil store)) loaded;
  sound = c.requires.sound;
  room = c.requires.room;
}

pub take_in-requires : goal.take_in-requires
take_in-requires c = record {
  sound = c.loop-kept.invariant.sound;
  room = (rises_there c.loop-kept.self.count c.args.piece.now c.loop-kept.kept-index c.kept-item.result c.loop-kept-test.true c.kept-item.is c.loop-kept.invariant.room).0;
}

pub loop-kept-preserved : goal.loop-kept-preserved
loop-kept-preserved c =
    let rises = rises_there c.loop-kept.self.count c.args.piece.now c.loop-kept.kept-index c.kept-item.result c.loop-kept-test.true c.kept-item.is c.loop-kept.invariant.room in
    record {
      taken = λ store loaded.
          taken_more c.args.piece.now store c.loop-kept.kept-index c.kept-item.result c.take_in.new.self c.loop-kept-test.true c.kept-item.is
          (c.in-Ok.ensures.taken.ok (store ++ take c.loop-kept.kept-index c.args.piece.now) (c.loop-kept.invariant.taken store loaded));
      sound = c.in-Ok.ensures.sound;
      room = rw c.in-Ok.ensures.count rises.1;
    }

pub returns-in-Err : goal.returns-in-Err
returns-in-Err c =
    let i = c.loop-kept.kept-index in
    let piece = c.args.piece.now in
    let next = drop_at_member piece i c.kept-item.result c.loop-kept-test.true c.kept-item.is in
    record {
      taken = record {
        ok = tt;
        damaged = λ place is store rest loaded.
            subst (λ (s : Store). IsDamagedAt meaning s place) (cut_there piece store rest i c.kept-item.result next)
            (c.in-Err.ensures.taken.damaged place is (store ++ take i piece) (drop (i + 1) piece ++ rest) (c.loop-kept.invariant.taken store loaded));
        unfailed = c.in-Err.ensures.taken.unfailed;
      };
      sound = tt;
    }

pub returns : goal.returns
returns c =
    let whole : take c.loop-kept.kept-index c.args.piece.now ≡ c.args.piece.now = take_all c.loop-kept.kept-index c.args.piece.now c.loop-kept-test.false in
    record {
      taken = record {
        ok = λ store loaded. subst (λ (front : Store). HasLoaded c.loop-kept.self (store ++ front)) whole (c.loop-kept.invariant.taken store loaded);
        damaged = λ place is. absurd cc;
        unfailed = λ is. absurd cc;
      };
      sound = c.loop-kept.invariant.sound;
    }
