mod EmptyStore
