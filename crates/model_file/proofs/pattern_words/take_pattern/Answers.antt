use Rattle.model_file.proofs.pattern_words.take_pattern.Goals as goal

pub returns-in-One : goal.returns-in-One
returns-in-One c = rw c.in-One.is (c.plain_pattern.ensures c.args.cursor.now.rest.now)
