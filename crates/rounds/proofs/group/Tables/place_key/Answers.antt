-- `rounds::group::Tables::place_key` meets its contract: the key is looked for in its bucket, and a new one gets a holder. Assumes nothing.
use Rattle.rounds.proofs.Laws.Segments.{mark_few}
use Rattle.rounds.proofs.Laws.Holders.{bucket_low, found_low}
use Rattle.rounds.proofs.group.Tables.place_key.Goals as goal

pub bucket_of-bucket-requires : goal.bucket_of-bucket-requires
bucket_of-bucket-requires c = let p = c.requires in mark_few _ _ p.0 _ p.3 _ p.4

pub hold-requires : goal.hold-requires
hold-requires c =
    let p = c.requires in
    (p.2, found_low _ _ _ _ _ _ _ p.1 _ _ c.find_key-i.ensures.answer, bucket_low _ _ _ c.bucket_of-bucket.ensures)
